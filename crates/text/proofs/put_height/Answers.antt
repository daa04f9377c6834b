-- `put_height`: the four arms are the four cases of the text, which is empty above 50,000,000.
use mathlib.Core.Path.{sym}
use Rattle.put.proofs.Laws.{put_same, put_nil}
use Rattle.text.proofs.Laws.{text_dry, text_low, text_cm, text_over}
use Rattle.text.proofs.put_height.Goals as goal

pub returns-then-h-eq0 : goal.returns-then-h-eq0
returns-then-h-eq0 c = put_same (sym (text_dry _ c.if-h-eq0.true)) c.put_front.ensures

pub returns-then-h-lt10000 : goal.returns-then-h-lt10000
returns-then-h-lt10000 c =
    put_same (sym (text_low _ c.if-h-eq0.false c.if-h-lt10000.true)) c.put_front-then-h-lt10000.ensures

pub returns-then-h-le50000000 : goal.returns-then-h-le50000000
returns-then-h-le50000000 c =
    put_same (sym (text_cm _ c.if-h-lt10000.false c.if-h-le50000000.true)) c.put_cm.ensures

pub returns : goal.returns
returns c = put_same (sym (text_over _ c.if-h-le50000000.false)) (put_nil _)
