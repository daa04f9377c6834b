-- The depth text's part is empty, scratch as lent, exactly if the height is out of range or the scratch is shorter than the text.
use Rattle.std.specs.Prelude.{ℕ, ◌+◌, ◌/◌, ◌<◌, ◌≡◌, refl, Bool, true, false, cond, ◌&&◌, ◌⊎◌, List, [], ◌++◌, ℤ, pos, negsuc, length, drop, ltb, leb, eqb}
use Rattle.std.proofs.Common.{sym, ap, ◌∙◌, subst, inl, inr, lt_irrefl, arith, length-append, le-ltb, le-leb, ne_eqb, leb-false}
use Rattle.std.proofs.lemmas.Bool.{lt-leb}
use Rattle.rules.specs.Site.{height_fits}
use Rattle.rules.specs.Text.{decimal, dry, under_one, cm, height_text, depth_text, fitted}
use Rattle.rules.specs.Calls.{text_part, text_scratch}

-- the height is out of range, or the scratch is shorter than the text
abbrev pub NoText : (height : ℤ) (scratch : List ℕ) → Type 0
NoText h scratch = (height_fits h ≡ false) ⊎ (length scratch < length (depth_text h))

-- ---- there the part is empty

in_range : (n : ℕ) → height_fits (pos n) ≡ leb n 50000000
in_range n = ap (λ (b : Bool). b && leb n 50000000) (le-leb 0 n (omega arith))

text_over : (n : ℕ) → 50000000 < n → height_text n ≡ []
unfolding height_text
text_over n h = rw (ne_eqb n 0 (λ e. lt_irrefl 0 (omega arith)), le-ltb n 10000 (omega arith), lt-leb n 50000000 h)

out_of_range : (h : ℤ) → height_fits h ≡ false → depth_text h ≡ []
unfolding depth_text
out_of_range (pos n) e = text_over n (leb-false n 50000000 (sym (in_range n) ∙ e))
out_of_range (negsuc n) e = refl

nothing_fitted : (k : ℕ) → fitted [] k ≡ []
unfolding fitted
nothing_fitted k = rw (le-leb 0 k (omega arith))

no_part : (h : ℤ) (scratch : List ℕ) → NoText h scratch → text_part h scratch ≡ []
unfolding text_part fitted
no_part h scratch (inl e) = ap (λ (t : List ℕ). fitted t (length scratch)) (out_of_range h e) ∙ nothing_fitted (length scratch)
no_part h scratch (inr l) = ap (λ (b : Bool). cond b (depth_text h) []) (lt-leb (length (depth_text h)) (length scratch) l)

pub record TextRefused (h : ℤ) (scratch : List ℕ) : Type 0 where
  pub part_empty : text_part h scratch ≡ []
  pub scratch_as_lent : text_scratch h scratch ≡ scratch

pub text_refused : (h : ℤ) (scratch : List ℕ) → NoText h scratch → TextRefused h scratch
unfolding text_scratch
text_refused h scratch r =
    let e = no_part h scratch r in
    record { part_empty = e; scratch_as_lent = ap (λ (t : List ℕ). t ++ drop (length t) scratch) e }

-- ---- and only there

some_text : (none low : Bool) (n : ℕ) → 0 < length (cond none dry (cond low under_one (decimal n ++ cm)))
some_text true low n = omega arith
some_text false true n = omega arith
some_text false false n = rw (length-append (decimal n) cm) (omega arith)

height_text_lem : (n : ℕ) → leb n 50000000 ≡ true → 0 < length (height_text n)
unfolding height_text
height_text_lem n e = rw e (some_text (eqb n 0) (ltb n 10000) ((n + 5000) / 10000))

only_out_of_range : (h : ℤ) → depth_text h ≡ [] → height_fits h ≡ false
unfolding depth_text
only_out_of_range (negsuc n) e = refl
only_out_of_range (pos n) e = in_range n ∙ go (leb n 50000000) refl
  where
    go : (b : Bool) → leb n 50000000 ≡ b → b ≡ false
    go true t = absurd (lt_irrefl 0 (subst (λ (l : List ℕ). 0 < length l) e (height_text_lem n t)))
    go false t = refl

pub text_refused_only : (h : ℤ) (scratch : List ℕ) → text_part h scratch ≡ [] → NoText h scratch
unfolding text_part fitted
text_refused_only h scratch e = go (leb (length (depth_text h)) (length scratch)) refl e
  where
    go : (b : Bool) → leb (length (depth_text h)) (length scratch) ≡ b → cond b (depth_text h) [] ≡ [] → NoText h scratch
    go true t q = inl (only_out_of_range h q)
    go false t q = inr (leb-false (length (depth_text h)) (length scratch) t)
