-- `face`: cells K and L lie on the site, so each of the eighteen places lies in its list, and its word is the number there.
use mathlib.Core.Path.{◌∙◌, sym, ap}
use Rattle.rules.specs.Site.{read_state}
use native.Mathlib.Omega.{arith}
use Rattle.laws.specs.Signed.{word_is}
use Rattle.laws.specs.Places.{height_read}
use Rattle.transfers.proofs.Sites.{facts, face_place}
use Rattle.around.specs.Around.{gathered_face}
use Rattle.layout.specs.declared.ways.Way.{Way}
use Rattle.layout.proofs.Pointing.{Cell, near_in, far_in}
use Rattle.around.proofs.Around.{cell_k, cell_l, gathered_is}
use Rattle.around.proofs.Flows.{sound_of, ground_in_lem, state_in_lem, tide_in, ground_is, new_is, in_tide, crossed_is}
use Rattle.around.proofs.faces.face.Goals as goal
use Rattle.layout.specs.Ways.{forth, speeds, transfers}

pub forth_column-i_l-requires : goal.forth_column-i_l-requires
forth_column-i_l-requires c =
    let a = c.requires in
    let k = cell_k a in
    let card = (facts (sound_of c.args.flow.now.flowing)).card in
    omega arith

pub forth_row-j_l-requires : goal.forth_row-j_l-requires
forth_row-j_l-requires c =
    let a = c.requires in
    let k = cell_k a in
    let card = (facts (sound_of c.args.flow.now.flowing)).card in
    omega arith

pub above-above-requires : goal.above-above-requires
above-above-requires c =
    let l : Cell c.args.flow.now.card c.forth_column-i_l.result c.forth_row-j_l.result = cell_l c.requires c.forth_column-i_l.ensures c.forth_row-j_l.ensures in
    face_place (sound_of c.args.flow.now.flowing) (near_in _ l)

pub below-below-requires : goal.below-below-requires
below-below-requires c =
    let l : Cell c.args.flow.now.card c.forth_column-i_l.result c.forth_row-j_l.result = cell_l c.requires c.forth_column-i_l.ensures c.forth_row-j_l.ensures in
    face_place (sound_of c.args.flow.now.flowing) (near_in _ l)

pub word-requires : goal.word-requires
word-requires c = state_in_lem c.args.flow.now.flowing (cell_k c.requires)

pub word-requires-2 : goal.word-requires-2
word-requires-2 c =
    let l : Cell c.args.flow.now.card c.forth_column-i_l.result c.forth_row-j_l.result = cell_l c.requires c.forth_column-i_l.ensures c.forth_row-j_l.ensures in
    state_in_lem c.args.flow.now.flowing l

-- a new height's place, which is the old height's too
pub word-requires-3 : goal.word-requires-3
word-requires-3 c =
    let k = cell_k c.requires in
    omega (arith, state_in_lem c.args.flow.now.flowing k, tide_in c.args.flow.now.flowing k)

pub word-requires-4 : goal.word-requires-4
word-requires-4 c =
    let l : Cell c.args.flow.now.card c.forth_column-i_l.result c.forth_row-j_l.result = cell_l c.requires c.forth_column-i_l.ensures c.forth_row-j_l.ensures in
    omega (arith, state_in_lem c.args.flow.now.flowing l, tide_in c.args.flow.now.flowing l)

pub word-requires-5 : goal.word-requires-5
word-requires-5 c = ground_in_lem c.args.flow.now.flowing (cell_k c.requires)

pub word-requires-6 : goal.word-requires-6
word-requires-6 c =
    let l : Cell c.args.flow.now.card c.forth_column-i_l.result c.forth_row-j_l.result = cell_l c.requires c.forth_column-i_l.ensures c.forth_row-j_l.ensures in
    ground_in_lem c.args.flow.now.flowing l

pub face_at-requires : goal.face_at-requires
face_at-requires c =
    let l : Cell c.args.flow.now.card c.forth_column-i_l.result c.forth_row-j_l.result = cell_l c.requires c.forth_column-i_l.ensures c.forth_row-j_l.ensures in
    in_tide c.args.flow.now.flowing (near_in _ l)

pub far-requires : goal.far-requires
far-requires c =
    let l : Cell c.args.flow.now.card c.forth_column-i_l.result c.forth_row-j_l.result = cell_l c.requires c.forth_column-i_l.ensures c.forth_row-j_l.ensures in
    in_tide c.args.flow.now.flowing (far_in _ l)

pub face_at-requires-2 : goal.face_at-requires-2
face_at-requires-2 c = in_tide c.args.flow.now.flowing (near_in _ (cell_k c.requires))

pub far-requires-2 : goal.far-requires-2
far-requires-2 c = in_tide c.args.flow.now.flowing (far_in _ (cell_k c.requires))

pub far-requires-3 : goal.far-requires-3
far-requires-3 c =
    let l : Cell c.args.flow.now.card c.forth_column-i_l.result c.forth_row-j_l.result = cell_l c.requires c.forth_column-i_l.ensures c.forth_row-j_l.ensures in
    in_tide c.args.flow.now.flowing (far_in _ l)

pub face_at-requires-3 : goal.face_at-requires-3
face_at-requires-3 c = in_tide c.args.flow.now.flowing (near_in _ (cell_k c.requires))

pub face_at-requires-4 : goal.face_at-requires-4
face_at-requires-4 c =
    let l : Cell c.args.flow.now.card c.forth_column-i_l.result c.forth_row-j_l.result = cell_l c.requires c.forth_column-i_l.ensures c.forth_row-j_l.ensures in
    in_tide c.args.flow.now.flowing (near_in _ l)

pub face_at-requires-5 : goal.face_at-requires-5
face_at-requires-5 c =
    let l : Cell c.args.flow.now.card c.forth_column-i_l.result c.forth_row-j_l.result = cell_l c.requires c.forth_column-i_l.ensures c.forth_row-j_l.ensures in
    face_place (sound_of c.args.flow.now.flowing) (near_in _ l)

pub far-requires-4 : goal.far-requires-4
far-requires-4 c =
    let l : Cell c.args.flow.now.card c.forth_column-i_l.result c.forth_row-j_l.result = cell_l c.requires c.forth_column-i_l.ensures c.forth_row-j_l.ensures in
    face_place (sound_of c.args.flow.now.flowing) (far_in _ l)

pub face_at-requires-6 : goal.face_at-requires-6
face_at-requires-6 c = face_place (sound_of c.args.flow.now.flowing) (near_in _ (cell_k c.requires))

pub returns : goal.returns
unfolding gathered_face
returns c =
    let l : Cell c.args.flow.now.card c.forth_column-i_l.result c.forth_row-j_l.result = cell_l c.requires c.forth_column-i_l.ensures c.forth_row-j_l.ensures in
    let a = c.args in
    let f = c.args.flow.now.flowing in
    let k = cell_k c.requires in
    rw (← gathered_is a.flow.now.card _ _ a.way a.i a.j, ← c.forth_column-i_l.ensures, ← c.forth_row-j_l.ensures, ← c.across-across.ensures)
    (λ x. record {
      old_k = word_is c.word.result c.word.type_inv (c.word.ensures ∙ height_read a.flow.now.card a.flow.now.state.now a.i a.j) x;
      old_l = word_is c.word-2.result c.word-2.type_inv (c.word-2.ensures ∙ height_read a.flow.now.card a.flow.now.state.now c.forth_column-i_l.result c.forth_row-j_l.result) x;
      new_k = word_is c.word-3.result c.word-3.type_inv (c.word-3.ensures ∙ new_is f k) x;
      new_l = word_is c.word-4.result c.word-4.type_inv (c.word-4.ensures ∙ new_is f l) x;
      ground_k = word_is c.word-5.result c.word-5.type_inv (c.word-5.ensures ∙ ground_is f k) x;
      ground_l = word_is c.word-6.result c.word-6.type_inv (c.word-6.ensures ∙ ground_is f l) x;
      own = word_is c.face_at.result c.face_at.type_inv (c.face_at.ensures ∙ crossed_is f _ (near_in _ l)) x;
      ahead = word_is c.far.result c.far.type_inv (c.far.ensures ∙ crossed_is f _ (far_in _ l) ∙ ap (λ (v : Way). transfers a.flow.now.card (read_state a.flow.now.card a.flow.now.state.now) a.way (forth a.way c.forth_column-i_l.result) (forth v c.forth_row-j_l.result)) (sym c.across-across.ensures)) x;
      behind = word_is c.face_at-2.result c.face_at-2.type_inv (c.face_at-2.ensures ∙ crossed_is f _ (near_in _ k)) x;
      above_k = word_is c.far-2.result c.far-2.type_inv (c.far-2.ensures ∙ crossed_is f _ (far_in _ k)) x;
      above_l = word_is c.far-3.result c.far-3.type_inv (c.far-3.ensures ∙ crossed_is f _ (far_in _ l)) x;
      below_k = word_is c.face_at-3.result c.face_at-3.type_inv (c.face_at-3.ensures ∙ crossed_is f _ (near_in _ k)) x;
      below_l = word_is c.face_at-4.result c.face_at-4.type_inv (c.face_at-4.ensures ∙ crossed_is f _ (near_in _ l)) x;
      u = word_is c.face_at-5.result c.face_at-5.type_inv c.face_at-5.ensures x;
      u_ahead = word_is c.far-4.result c.far-4.type_inv (c.far-4.ensures ∙ ap (λ (v : Way). speeds (read_state a.flow.now.card a.flow.now.state.now) a.way (forth a.way c.forth_column-i_l.result) (forth v c.forth_row-j_l.result)) (sym c.across-across.ensures)) x;
      u_behind = word_is c.face_at-6.result c.face_at-6.type_inv c.face_at-6.ensures x;
      u_above = word_is c.above-above.result c.above-above.type_inv c.above-above.ensures x;
      u_below = word_is c.below-below.result c.below-below.type_inv c.below-below.ensures x;
    })
