-- Of each call on the pin table, any two outcomes which its contract allows are equal, whatever was given: refused calls too.
use Rattle.std.specs.Prelude.{ℕ, ◌≡◌, List}
use Rattle.pins_rules.specs.declared.Listing.{Listing}
use Rattle.pins_rules.specs.PublicContracts.{AddContract, RemoveContract, ListContract}

pub one_add : {table : List ℕ} {crew chamber n n' : ℕ} {v v' : List ℕ} → AddContract table crew chamber n v → AddContract table crew chamber n' v' → (n ≡ n') × (v ≡ v')
one_add p q = (cc, cc)

pub one_remove : {table : List ℕ} {crew chamber n n' : ℕ} {v v' : List ℕ} → RemoveContract table crew chamber n v → RemoveContract table crew chamber n' v' → (n ≡ n') × (v ≡ v')
one_remove p q = (cc, cc)

pub one_list : {table : List ℕ} {crew : ℕ} {found : List ℕ} {a a' : Listing} {v v' : List ℕ} → ListContract table crew found a v → ListContract table crew found a' v' → (a ≡ a') × (v ≡ v')
one_list p q = (cc, cc)
