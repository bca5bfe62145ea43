-- Which entries a set paper holds, and what its verdict says of them.
use Rattle.std.specs.Prelude.{◌≡◌, ℕ, ◌<◌, ◌≤◌, ◌⊎◌, Bool, List, [], Ok, Err, Result}
use Rattle.records.specs.declared.PaperKind.{PaperKind}
use Rattle.records.specs.Papers.{Holds}
use Rattle.records.specs.Single.{and_then, single_in}
use Rattle.records.specs.Walks.{map_err}
use Rattle.setpapers.specs.declared.fault.SetFault.{SetFault}
use Rattle.setpapers.specs.Rows.{verdict}
use Rattle.setpapers.specs.declared.fault.SetFault.TheVariants.{Record, TooMany, BadEntry}

-- the body, where its verdict accepts it
abbrev pub accepted : List ℕ → Result (Unit {0}) SetFault → Result (List ℕ) SetFault
accepted body (Ok x) = Ok body
accepted body (Err e) = Err e

-- the body of a paper of this kind whose entries the verdict accepts, or the first fault
abbrev pub body_in : PaperKind → (List ℕ → Result (Unit {0}) SetFault) → List ℕ → Result (List ℕ) SetFault
body_in kind check paper = and_then (map_err Record (single_in kind paper)) (λ body. accepted body (check body))

-- the body of a paper of this kind with at least so many entries, each of which passes, or the first fault
abbrev pub entries_in : PaperKind → ℕ → (ℕ → List ℕ → ℕ → Bool) → (List ℕ → ℕ) → ℕ → List ℕ → Result (List ℕ) SetFault
entries_in kind least p count w = body_in kind (λ bs. verdict least (p w bs) (count bs))

-- whether a reader returns what it reads, and if not why
abbrev pub outcome : {A : Type 0} → Result A SetFault → Result (Unit {0}) SetFault
outcome (Ok x) = Ok tt
outcome (Err e) = Err e

-- a reader's answer
abbrev pub answered : Result (List ℕ) SetFault → Result (Unit {0}) SetFault
answered (Ok body) = Ok tt
answered (Err e) = Err e

-- the body that a reader leaves in the place: none after a refusal
abbrev pub kept : Result (List ℕ) SetFault → List ℕ
kept (Ok body) = body
kept (Err e) = []

-- what a verdict says of n entries, at least so many, each of which is to keep the rule P: the fault is the first that fits
abbrev pub Judged : ℕ → (ℕ → Type 0) → ℕ → Result (Unit {0}) SetFault → Type 0
Judged least P n (Ok x) = (least ≤ n) × (n ≤ 1024) × ((i : ℕ) → i < n → P i)
Judged least P n (Err (Record fault)) = ⊥
Judged least P n (Err TooMany) = 1024 < n
Judged least P n (Err (BadEntry i)) = (n ≤ 1024) × (((n < least) × (i ≡ 0)) ⊎ ((i < n) × ((j : ℕ) → j < i → P j) × (P i → ⊥)))

-- the paper holds a body of which that is said; count tells its entries
abbrev pub OfBody : PaperKind → ℕ → (List ℕ → ℕ) → (List ℕ → ℕ → Type 0) → List ℕ → Result (Unit {0}) SetFault → Type 0
OfBody kind least count P paper r = (body : List ℕ) × (Holds kind body paper) × Judged least (P body) (count body) r

-- what a reader's answer says of a paper of this kind: its records are at fault, or its body is accepted or refused
abbrev pub Found : PaperKind → ℕ → (List ℕ → ℕ) → (List ℕ → ℕ → Type 0) → List ℕ → Result (Unit {0}) SetFault → Type 0
Found kind least count P paper (Ok x) = OfBody kind least count P paper (Ok x)
Found kind least count P paper (Err (Record fault)) = (single_in kind paper ≡ Err fault) × ((body : List ℕ) → Holds kind body paper → ⊥)
Found kind least count P paper (Err TooMany) = OfBody kind least count P paper (Err TooMany)
Found kind least count P paper (Err (BadEntry i)) = OfBody kind least count P paper (Err (BadEntry i))
