-- Pumps turned with a site: their number, their amounts and their order stay, and what they do to the turned state is what they did, turned.
use Prim.Native.Nat.{ℕ, zero, suc, ◌+◌, ◌*◌, ◌-◌, ◌/◌, ◌≤◌, ◌<◌}
use Rattle.std.specs.Prelude.{◌≡◌, Bool, true, false, cond, ◌&&◌, List, [], ◌∷◌, ℤ, pos, length, get_or, leb, eqb}
use Rattle.std.proofs.Math.Path.{refl, ap, ap₂, subst}
use Rattle.std.proofs.Common.{sym, ◌∙◌, le_refl, le_of_suc-le-suc, not-suc-le-zero, arith, length-set, ext_get_or, eqb→eq, lt→ltb, ltb→lt, le→leb, ltb-false}
use Rattle.std.proofs.Math.IntN.{nat_abs}
use Rattle.std.specs.Int.Signed.{le_z}
use Rattle.std.proofs.Math.ListN.{set}
use Rattle.std.proofs.Math.Dec.{T, ltb, eqb_refl}
use Rattle.rules.specs.declared.Card.{Card}
use Rattle.rules.specs.Site.{cells, state_length}
use Rattle.rules.specs.Pumps.{Pump, pump_at, pump_count, few_pumps, whole_pumps, pump_fits, pumps_fit, adds, takes, height_after, height_at, after_pump, after_pumps, height_found, adds_up_to, takes_up_to, pumped, added_by, taken_by, turn_fits, inlets_fit}
use Rattle.rules.specs.Turn.{Turn, turned_pumps}
use Rattle.laws.specs.Tests.{both_ways, true_of, to_T, and_both}
use Rattle.laws.specs.Grids.{all_intro, all_same}
use Rattle.laws.specs.Stored.{stored, faces_stored}
use Rattle.laws.specs.Pumped.{pump_facts, length_afters, each_fits}
use Rattle.laws.specs.PumpChecks.{PumpsPass}
use Rattle.promises.specs.Turning.{Lawful}

-- ---- the list of words

pub length-turned : (t : Turn) (c : Card) (ps : List ℤ) → length (turned_pumps t c ps) ≡ length ps
unfolding turned_pumps
length-turned t c [] = refl
length-turned t c (left ∷ []) = refl
length-turned t c (cell ∷ amount ∷ ps) = ap (λ (n : ℕ). suc (suc n)) (length-turned t c ps)

-- a pump, turned
abbrev pub turned_pump : Turn → Card → Pump → Pump
turned_pump t c p = record { cell = pos (t.cell c (nat_abs p.cell)); amount = p.amount }

two_more : (k : ℕ) → 2 * suc k ≡ suc (suc (2 * k))
two_more k = omega arith

two_more_and_one : (k : ℕ) → 2 * suc k + 1 ≡ suc (suc (2 * k + 1))
two_more_and_one k = omega arith

next_pump : (x y : ℤ) (ps : List ℤ) (k : ℕ) → pump_at (x ∷ y ∷ ps) (suc k) ≡ pump_at ps k
unfolding pump_at
next_pump x y ps k = λ i. record { cell = get_or (x ∷ y ∷ ps) (two_more k i) (pos 0); amount = get_or (x ∷ y ∷ ps) (two_more_and_one k i) (pos 0) }

pub pump_turned : (t : Turn) (c : Card) (ps : List ℤ) (k : ℕ) → 2 * k + 1 < length ps → pump_at (turned_pumps t c ps) k ≡ turned_pump t c (pump_at ps k)
unfolding turned_pumps pump_at
pump_turned t c [] k h = absurd (not-suc-le-zero h)
pump_turned t c (left ∷ []) zero h = absurd (not-suc-le-zero (le_of_suc-le-suc h))
pump_turned t c (left ∷ []) (suc k) h = absurd (let n : 2 * suc k + 1 < 1 = h in omega arith)
pump_turned t c (cell ∷ amount ∷ ps) zero h = refl
pump_turned t c (cell ∷ amount ∷ ps) (suc k) h =
    next_pump _ _ (turned_pumps t c ps) k ∙ pump_turned t c ps k (let n : 2 * suc k + 1 < suc (suc (length ps)) = h in omega arith) ∙ ap (turned_pump t c) (sym (next_pump cell amount ps k))

-- ---- one height stored, and the state turned

module _ (t : Turn) (𝓛 : Lawful t) (c : Card) where
  module _ (s : List ℤ) (k : ℕ) (v : ℤ) (held : k < cells c) (room : k < length s) where
    same_test : (l : ℕ) → l < cells c → eqb (t.cell c l) (t.cell c k) ≡ eqb l k
    same_test l h =
        both_ways _ _
        (λ q. subst (λ (n : ℕ). T (eqb n k)) (sym (𝓛.apart c l k h held (eqb→eq _ _ q))) (eqb_refl k))
        (λ q. subst (λ (n : ℕ). T (eqb (t.cell c n) (t.cell c k))) (sym (eqb→eq l k q)) (eqb_refl (t.cell c k)))

    turned-room : t.cell c k < length (t.state c s)
    unfolding state_length
    turned-room = let p = 𝓛.places c k held in omega (arith, 𝓛.long c s, p)

    here : (l : ℕ) → l < cells c → get_or (set (t.state c s) (t.cell c k) v) (t.cell c l) (pos 0) ≡ get_or (t.state c (set s k v)) (t.cell c l) (pos 0)
    here l h =
        stored (t.state c s) (t.cell c k) (t.cell c l) v turned-room
        ∙ ap₂ (λ (b : Bool) (x : ℤ). cond b v x) (same_test l h) (𝓛.heights c s l h)
        ∙ sym (stored s k l v room)
        ∙ sym (𝓛.heights c (set s k v) l h)

    there : (m : ℕ) → get_or (set (t.state c s) (t.cell c k) v) (cells (t.card c) + m) (pos 0) ≡ get_or (t.state c (set s k v)) (cells (t.card c) + m) (pos 0)
    there m =
        (faces_stored (t.card c) (t.state c s) (t.cell c k) v (𝓛.places c k held)).word m
        ∙ sym ((𝓛.faces c s (set s k v) (faces_stored c s k v held)).word m)

    pub stores : set (t.state c s) (t.cell c k) v ≡ t.state c (set s k v)
    stores =
        ext_get_or (pos 0) (set (t.state c s) (t.cell c k) v) (t.state c (set s k v))
        (length-set (t.state c s) (t.cell c k) v ∙ 𝓛.long c s ∙ sym (𝓛.long c (set s k v)))
        (λ m l. pick m (ltb m (cells (t.card c))) refl)
      where
        pick : (m : ℕ) (b : Bool) → ltb m (cells (t.card c)) ≡ b → get_or (set (t.state c s) (t.cell c k) v) m (pos 0) ≡ get_or (t.state c (set s k v)) m (pos 0)
        pick m true e =
            let x = 𝓛.from c m (ltb→lt m (cells (t.card c)) (to_T e)) in
            subst (λ (n : ℕ). get_or (set (t.state c s) (t.cell c k) v) n (pos 0) ≡ get_or (t.state c (set s k v)) n (pos 0)) x.is (here x.cell x.held)
        pick m false e =
            let h = ltb-false m (cells (t.card c)) e in
            let split : cells (t.card c) + (m - cells (t.card c)) ≡ m = omega (arith, h) in
            subst (λ (n : ℕ). get_or (set (t.state c s) (t.cell c k) v) n (pos 0) ≡ get_or (t.state c (set s k v)) n (pos 0)) split (there (m - cells (t.card c)))

  -- ---- one pump at its turn
  after-turned : (p : Pump) (s : List ℤ) → T (pump_fits c p) → cells c ≤ length s → after_pump (turned_pump t c p) (t.state c s) ≡ t.state c (after_pump p s)
  unfolding after_pump height_after adds takes
  after-turned p s fit long =
      let k = nat_abs p.cell in
      let h = (pump_facts c p fit).place in
      ap (λ (x : ℤ). set (t.state c s) (t.cell c k) (height_after p x)) (𝓛.heights c s k h) ∙ stores s k (height_after p (get_or s k (pos 0))) h (omega (arith, h, long))

  -- ---- all pumps of a list that passes
  module _ (ps : List ℤ) (pass : PumpsPass c ps) where
    abbrev qs : List ℤ
    qs = turned_pumps t c ps

    count_same : pump_count qs ≡ pump_count ps
    count_same = ap (λ (n : ℕ). n / 2) (length-turned t c ps)

    at : (k : ℕ) → k < pump_count ps → pump_at qs k ≡ turned_pump t c (pump_at ps k)
    at k h = pump_turned t c ps k (omega arith)

    turned-after : (n : ℕ) → n ≤ pump_count ps → (s : List ℤ) → cells c ≤ length s → after_pumps qs n (t.state c s) ≡ t.state c (after_pumps ps n s)
    unfolding after_pumps
    turned-after zero l s long = refl
    turned-after (suc n) l s long =
        ap₂ after_pump (at n l) (turned-after n (omega arith) s long)
        ∙ after-turned (pump_at ps n) (after_pumps ps n s) (each_fits c ps pass.fit n l) (omega (arith, long, length_afters c ps n s))

    found_same : (k : ℕ) → k < pump_count ps → (s : List ℤ) → cells c ≤ length s → height_found qs (t.state c s) k ≡ height_found ps s k
    found_same k h s long =
        ap₂ (λ (p : Pump) (v : List ℤ). height_at p v) (at k h) (turned-after k (omega arith) s long)
        ∙ 𝓛.heights c (after_pumps ps k s) (nat_abs (pump_at ps k).cell) (pump_facts c (pump_at ps k) (each_fits c ps pass.fit k h)).place

    turn_same : (k : ℕ) → k < pump_count ps → (s : List ℤ) → cells c ≤ length s → turn_fits qs (t.state c s) k ≡ turn_fits ps s k
    unfolding turn_fits height_after adds takes
    turn_same k h s long = ap₂ (λ (p : Pump) (x : ℤ). le_z (height_after p x) (pos 50000000)) (at k h) (found_same k h s long)

    adds_same : (n : ℕ) → n ≤ pump_count ps → adds_up_to qs n ≡ adds_up_to ps n
    unfolding adds_up_to adds
    adds_same zero l = refl
    adds_same (suc n) l = ap₂ ◌+◌ (adds_same n (omega arith)) (ap adds (at n l))

    takes_same : (n : ℕ) → n ≤ pump_count ps → (s : List ℤ) → cells c ≤ length s → takes_up_to qs (t.state c s) n ≡ takes_up_to ps s n
    unfolding takes_up_to takes
    takes_same zero l s long = refl
    takes_same (suc n) l s long = ap₂ ◌+◌ (takes_same n (omega arith) s long) (ap₂ takes (at n l) (found_same n l s long))

    -- ---- so of the whole list

    pub added_turned : added_by qs ≡ added_by ps
    unfolding added_by
    added_turned = rw count_same (adds_same (pump_count ps) (le_refl (pump_count ps)))

    pub taken_turned : (s : List ℤ) → cells c ≤ length s → taken_by qs (t.state c s) ≡ taken_by ps s
    unfolding taken_by
    taken_turned s long = rw count_same (takes_same (pump_count ps) (le_refl (pump_count ps)) s long)

    pub pumped-turned : (s : List ℤ) → cells c ≤ length s → pumped qs (t.state c s) ≡ t.state c (pumped ps s)
    unfolding pumped
    pumped-turned s long = rw count_same (turned-after (pump_count ps) (le_refl (pump_count ps)) s long)

    pub inlets_turned : (s : List ℤ) → cells c ≤ length s → inlets_fit qs (t.state c s) ≡ inlets_fit ps s
    unfolding inlets_fit
    inlets_turned s long = rw count_same (all_same (pump_count ps) (turn_fits ps s) (turn_fits qs (t.state c s)) (λ k h. turn_same k h s long))

    pub pumps_turned : PumpsPass (t.card c) qs
    unfolding few_pumps whole_pumps pumps_fit pump_fits
    pumps_turned = record {
      few = rw (length-turned t c ps) pass.few;
      whole = rw (length-turned t c ps) pass.whole;
      fit = rw count_same (true_of _ (all_intro (pump_count ps) (λ k. pump_fits (t.card c) (pump_at qs k)) (λ k h. subst (λ (p : Pump). T (pump_fits (t.card c) p)) (sym (at k h)) (fits k h))));
    }
      where
        fits : (k : ℕ) → k < pump_count ps → T (pump_fits (t.card c) (turned_pump t c (pump_at ps k)))
        fits k h =
            let f = pump_facts c (pump_at ps k) (each_fits c ps pass.fit k h) in
            let m = t.cell c (nat_abs (pump_at ps k).cell) in
            and_both (leb 0 m && ltb m (cells (t.card c))) (leb (nat_abs (pump_at ps k).amount) 1000000)
            (and_both (leb 0 m) (ltb m (cells (t.card c))) (le→leb 0 m (omega arith)) (lt→ltb m (cells (t.card c)) (𝓛.places c (nat_abs (pump_at ps k).cell) f.place)))
            (le→leb (nat_abs (pump_at ps k).amount) 1000000 f.amount)
