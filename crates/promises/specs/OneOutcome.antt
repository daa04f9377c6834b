-- Of each public call, any two outcomes which its contract allows are equal, whatever was given: refused calls too.
use Rattle.std.specs.Prelude.{ℕ, ◌≡◌, List, ℤ, Float}
use Rattle.rules.specs.declared.Card.{Card}
use Rattle.rules.specs.declared.Tally.{Tally}
use Rattle.rules.specs.declared.Window.{Window}
use Rattle.rules.specs.declared.Chamber.{Chamber}
use Rattle.rules.specs.declared.Found.{Found}
use Rattle.rules.specs.declared.Heard.{Heard}
use Rattle.rules.specs.declared.Wrote.{Wrote}
use Rattle.rules.specs.declared.Reading.{Reading}
use Rattle.rules.specs.declared.Staff.{Staff}
use Rattle.rules.specs.declared.Raster.{Raster}
use Rattle.rules.specs.Step.{Rule}
use Rattle.rules.specs.PublicContracts.{StepContractBy, RunContract, SearchContract, RowSearchContract, ReadContract, WriteContract, TextContract, StaffContract, KindContract, ReadRasterContract, WriteRasterContract}

-- ---- step, by either engine

pub one_step : {rule : Rule} {c : Card} {g s ps n : List ℤ} {k k' : ℕ} {v v' : List ℤ} → StepContractBy rule c g s ps n k v → StepContractBy rule c g s ps n k' v' → (k ≡ k') × (v ≡ v')
one_step p q = (cc, cc)

-- ---- run

pub one_run : {c : Card} {g s ps x : List ℤ} {t t' : Tally} {v v' y y' : List ℤ}
    → RunContract c g s ps x t v y → RunContract c g s ps x t' v' y' → (t ≡ t') × (v ≡ v') × (y ≡ y')
one_run p q = (cc, cc, cc)

-- ---- search, over two lists of numbers and over a row of chambers

pub one_search : {c : Card} {g s xs ys : List ℤ} {w : Window} {d : ℤ} {f : List ℕ} {a a' : Found} {v v' : List ℕ}
    → SearchContract c g s xs ys w d f a v → SearchContract c g s xs ys w d f a' v' → (a ≡ a') × (v ≡ v')
one_search p q = (cc, cc)

pub one_row_search : {c : Card} {g s : List ℤ} (row : List Chamber) {w : Window} {d : ℤ} {f : List ℕ} {a a' : Found} {v v' : List ℕ}
    → RowSearchContract c g s row w d f a v → RowSearchContract c g s row w d f a' v' → (a ≡ a') × (v ≡ v')
one_row_search row p q = one_search p q

-- ---- sheet reader

pub one_reading : {l : List ℕ} {g s : List ℤ} {h h' : Heard} {v v' y y' : List ℤ}
    → ReadContract l g s h v y → ReadContract l g s h' v' y' → (h ≡ h') × (v ≡ v') × (y ≡ y')
one_reading p q = (cc, cc, cc)

-- ---- sheet writer

pub one_writing : {c : Card} {g s : List ℤ} {b : List ℕ} {a a' : Wrote} {v v' : List ℕ}
    → WriteContract c g s b a v → WriteContract c g s b a' v' → (a ≡ a') × (v ≡ v')
one_writing p q = (cc, cc)

-- ---- depth text

pub one_text : {h : ℤ} {x : List ℕ} {n n' : ℕ} {y y' : List ℕ} → TextContract h x n y → TextContract h x n' y' → (n ≡ n') × (y ≡ y')
one_text p q = (cc, cc)

-- ---- staff reading, as an enum and by its kind

pub one_staff : {r : Reading} {a a' : Staff} → StaffContract r a → StaffContract r a' → a ≡ a'
one_staff p q = cc

pub one_kind : {k : ℕ} {v : Float} {a a' : Staff} → KindContract k v a → KindContract k v a' → a ≡ a'
one_kind p q = cc

-- ---- raster reader

pub one_raster_reading : {text : List ℕ} {g : List ℤ} {a a' : Raster} {v v' : List ℤ}
    → ReadRasterContract text g a v → ReadRasterContract text g a' v' → (a ≡ a') × (v ≡ v')
one_raster_reading p q = (cc, cc)

-- ---- raster writer

pub one_raster_writing : {c : Card} {g : List ℤ} {text : List ℕ} {a a' : Wrote} {v v' : List ℕ}
    → WriteRasterContract c g text a v → WriteRasterContract c g text a' v' → (a ≡ a') × (v ≡ v')
one_raster_writing p q = (cc, cc)
