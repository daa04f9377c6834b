-- What the levels of a face decide, its new heights and its ground: whether it has water, whether it has a dry bank, and its rise by either engine. Of two faces
-- that carry as much they decide the new velocity.
use Rattle.std.specs.Prelude.{ℕ, ◌≡◌, Bool}
use Rattle.std.proofs.Math.Bool.{true, false}
use Rattle.rules.specs.declared.Face.{Face}
use Rattle.rules.specs.Step.{new_sum, carried, rise, dry_bank, new_velocity_by, new_velocity}
use Rattle.rules.specs.Textbook.{pressure, pressure_term, ground_term, textbook_rise}
use Rattle.laws.specs.Engines.{rise_of}

pub record SameLevels (f e : Face) : Type 0 where
  pub new_k : f.new_k ≡ e.new_k
  pub new_l : f.new_l ≡ e.new_l
  pub ground_k : f.ground_k ≡ e.ground_k
  pub ground_l : f.ground_l ≡ e.ground_l

module _ {f e : Face} (same : SameLevels f e) where
  pub same_sum : new_sum f ≡ new_sum e
  same_sum = rw (same.new_k, same.new_l)

  pub same_bank : dry_bank f ≡ dry_bank e
  unfolding dry_bank
  same_bank = rw (same.new_k, same.new_l, same.ground_k, same.ground_l)

  pub same_rise_of : (textbook : Bool) → rise_of textbook f ≡ rise_of textbook e
  unfolding rise textbook_rise pressure_term pressure ground_term
  same_rise_of true = rw (same.new_k, same.new_l, same.ground_k, same.ground_l)
  same_rise_of false = rw (same.new_k, same.new_l, same.ground_k, same.ground_l)

  pub same_velocity : (dt d : ℕ) → carried f ≡ carried e → new_velocity dt d f ≡ new_velocity dt d e
  unfolding new_velocity_by
  same_velocity dt d a = rw (same_rise_of false, same_bank, a, same.new_k, same.new_l)
