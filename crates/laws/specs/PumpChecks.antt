-- What the first three checks say of a site with pumps, as facts that a proof can use.
use Rattle.std.specs.Prelude.{◌≤◌, ◌≡◌, refl, Bool, true, ◌&&◌, List, [], ℤ, length}
use Rattle.std.proofs.Math.Path.{ap}
use Rattle.std.proofs.Common.{◌∙◌, arith, leb→le}
use Rattle.std.proofs.Math.Bool.{and_assoc, and_comm, and_self}
use Rattle.std.proofs.Math.Dec.{eqb, eqb→eq}
use borrow.Author.Tests.{eq-eqb}
use Rattle.rules.specs.declared.Card.{Card}
use Rattle.rules.specs.Grid.{all}
use Rattle.rules.specs.Site.{cells, state_length, card_fits, lengths_fit, values_fit, read_ground, read_state, first_of, check_also, check}
use Rattle.rules.specs.Pumps.{pump_count, few_pumps, whole_pumps, pumps_fit, added_by, taken_by, check_pumped, check_pumped_with}
use Rattle.laws.specs.Tests.{true_of, to_T, and_left, and_right}
use Rattle.laws.specs.Checks.{together}
use Rattle.laws.specs.Facts.{Sound, SoundWith, granted, sound_check}
use Rattle.laws.specs.Pumped.{adds_most, takes_most, each_fits}

-- pumps that pass: at most 64, no word left over, each with a cell of the site and an amount in range
pub record PumpsPass (c : Card) (ps : List ℤ) : Type 0 where
  pub few : few_pumps ps ≡ true
  pub whole : whole_pumps ps ≡ true
  pub fit : pumps_fit c ps ≡ true

pub at_most_64 : {c : Card} {ps : List ℤ} → PumpsPass c ps → pump_count ps ≤ 64
unfolding few_pumps
at_most_64 {c} {ps} p = leb→le (pump_count ps) 64 (to_T p.few)

-- so they add and take at most 64,000,000 in a step
pub added_most : (c : Card) (ps : List ℤ) → PumpsPass c ps → added_by ps ≤ 64000000
unfolding added_by
added_most c ps p = omega (arith, adds_most c ps (pump_count ps) (each_fits c ps p.fit), at_most_64 p)

pub taken_most : (c : Card) (ps : List ℤ) → PumpsPass c ps → (s : List ℤ) → taken_by ps s ≤ 64000000
unfolding taken_by
taken_most c ps p s = omega (arith, takes_most c ps s (pump_count ps) (each_fits c ps p.fit), at_most_64 p)

-- no pumps pass
pub none_pass : (c : Card) → PumpsPass c []
unfolding few_pumps whole_pumps pumps_fit all
none_pass c = record { few = refl; whole = refl; fit = refl }

-- a sound site with pumps, and one more list that is as long as its state
pub record SoundPumped (c : Card) (g s ps : List ℤ) : Type 0 where
  pub sound : Sound c g s
  pub pumps : PumpsPass c ps

pub record SoundPumpedWith (c : Card) (g s ps more : List ℤ) : Type 0 where
  pub site : SoundWith c g s more
  pub pumps : PumpsPass c ps

module _ (c : Card) (g s ps : List ℤ) where
  -- ---- without that list

  pub checked : check_pumped c g s ps ≡ 0 → SoundPumped c g s ps
  unfolding check_pumped
  checked e =
      let a = granted (few_pumps ps) (whole_pumps ps) (pumps_fit c ps) c g s e in
      record { sound = a.sound; pumps = record { few = true_of _ a.for_1; whole = true_of _ a.for_2; fit = true_of _ a.for_3 } }

  pub to_checked : SoundPumped c g s ps → check_pumped c g s ps ≡ 0
  unfolding check_pumped check_also
  to_checked p = rw (p.pumps.few, p.pumps.whole, p.pumps.fit) (together p.sound)

  -- the site passes without its pumps too
  pub check_alone : check_pumped c g s ps ≡ 0 → check c g s ≡ 0
  check_alone e = sound_check c g s (checked e).sound

  -- ---- with it

  pub checked_with : (more : List ℤ) → check_pumped_with c g s ps (length more) ≡ 0 → SoundPumpedWith c g s ps more
  unfolding check_pumped_with
  checked_with more e =
      let long = eqb (length more) (state_length c) in
      let a = granted (few_pumps ps) (whole_pumps ps && long) (pumps_fit c ps) c g s e in
      record {
        site = record { sound = a.sound; long = eqb→eq (length more) (state_length c) (and_right (whole_pumps ps) long a.for_2) };
        pumps = record { few = true_of _ a.for_1; whole = true_of _ (and_left (whole_pumps ps) long a.for_2); fit = true_of _ a.for_3 };
      }

  pub to_checked_with : (more : List ℤ) → SoundPumpedWith c g s ps more → check_pumped_with c g s ps (length more) ≡ 0
  unfolding check_pumped_with check_also
  to_checked_with more p =
      rw (p.pumps.few, p.pumps.whole, p.pumps.fit, eq-eqb (length more) (state_length c) p.site.long) (together p.site.sound)

  pub checked_of_with : (more : List ℤ) → check_pumped_with c g s ps (length more) ≡ 0 → check_pumped c g s ps ≡ 0
  checked_of_with more e = let p = checked_with more e in to_checked (record { sound = p.site.sound; pumps = p.pumps })

  -- it says the same as the check without that list, where the list is as long as the state
  pub check_own : check_pumped_with c g s ps (length s) ≡ check_pumped c g s ps
  unfolding check_pumped_with check_pumped check_also lengths_fit
  check_own =
      let land = eqb (length g) (cells c) in
      let state = eqb (length s) (state_length c) in
      let whole = whole_pumps ps in
      let once : ((whole && state) && (land && state)) ≡ (whole && (land && state)) =
      and_assoc whole state (land && state) ∙ ap (λ (b : Bool). whole && b) (and_comm state (land && state) ∙ and_assoc land state state ∙ ap (λ (b : Bool). land && b) (and_self state)) in
      ap (λ (l : Bool). first_of (few_pumps ps && card_fits c) l (pumps_fit c ps && values_fit c (read_ground c g) (read_state c s))) once

-- with no pumps it is the check of a site without any
pub none_checked : (c : Card) (g s : List ℤ) → check_pumped c g s [] ≡ check c g s
unfolding check_pumped check check_also
none_checked c g s = let p = none_pass c in rw (p.few, p.whole, p.fit)
