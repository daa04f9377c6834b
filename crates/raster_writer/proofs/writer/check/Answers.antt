-- `check`: the card, the lengths, and then the values.
use Prim.Native.Nat.{ℕ, ◌+◌}
use mathlib.Core.Path.{sym, ap, ◌∙◌}
use mathlib.Core.Bool.{Bool, ◌&&◌, cond}
use lib.IntN.{pos, negsuc}
use lib.ListN.{length, get_or}
use lib.Dec.{eqb}
use Rattle.laws.specs.Tests.{one_fails, both_hold}
use Rattle.laws.specs.Between.{between}
use Rattle.rules.specs.Grid.{all}
use Rattle.rules.specs.Site.{grounds_fit, read_ground}
use Rattle.laws.specs.Checks.{not_card, not_lengths, by_values}
use Rattle.raster_writer.proofs.Numbers.{grounds_are}
use Rattle.raster_writer.proofs.writer.check.Goals as goal

pub returns-then-not-card_fits : goal.returns-then-not-card_fits
returns-then-not-card_fits c = not_card _ _ (sym c.card_fits.ensures ∙ c.if-not-card_fits.true)

pub cells-n-requires : goal.cells-n-requires
cells-n-requires c = sym c.card_fits.ensures ∙ c.if-not-card_fits.false

pub returns-then-land-n : goal.returns-then-land-n
returns-then-land-n c = not_lengths _ (sym c.card_fits.ensures ∙ c.if-not-card_fits.false) (ap (λ (t : Bool). t && (eqb c.args.card.dx c.args.card.dy)) (ap (eqb (length c.args.land.now)) (sym c.cells-n.ensures.0)) ∙ one_fails (eqb (length c.args.land.now) c.cells-n.result) (eqb c.args.card.dx c.args.card.dy) c.if-land-n.true)

pub returns-then-not-all_between : goal.returns-then-not-all_between
returns-then-not-all_between c = sym (by_values (grounds_fit c.args.card (read_ground c.args.card c.args.land.now)) (sym c.card_fits.ensures ∙ c.if-not-card_fits.false) (ap (λ (t : Bool). t && (eqb c.args.card.dx c.args.card.dy)) (ap (eqb (length c.args.land.now)) (sym c.cells-n.ensures.0)) ∙ both_hold (eqb (length c.args.land.now) c.cells-n.result) (eqb c.args.card.dx c.args.card.dy) c.if-land-n.false) ∙ ap (λ (t : Bool). cond t 0 3) (sym (ap (λ (n : ℕ). all n (λ k. between (negsuc 49999999) (pos 50000000) (get_or c.args.land.now (0 + k) (pos 0)))) c.cells-n.ensures.0 ∙ grounds_are c.args.card c.args.land.now) ∙ sym c.all_between.ensures ∙ c.if-not-all_between.true))

pub returns : goal.returns
returns c = sym (by_values (grounds_fit c.args.card (read_ground c.args.card c.args.land.now)) (sym c.card_fits.ensures ∙ c.if-not-card_fits.false) (ap (λ (t : Bool). t && (eqb c.args.card.dx c.args.card.dy)) (ap (eqb (length c.args.land.now)) (sym c.cells-n.ensures.0)) ∙ both_hold (eqb (length c.args.land.now) c.cells-n.result) (eqb c.args.card.dx c.args.card.dy) c.if-land-n.false) ∙ ap (λ (t : Bool). cond t 0 3) (sym (ap (λ (n : ℕ). all n (λ k. between (negsuc 49999999) (pos 50000000) (get_or c.args.land.now (0 + k) (pos 0)))) c.cells-n.ensures.0 ∙ grounds_are c.args.card c.args.land.now) ∙ sym c.all_between.ensures ∙ c.if-not-all_between.false))
