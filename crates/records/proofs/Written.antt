-- Papers as they are written, and what is cut off them.
use Rattle.std.proofs.Common.{◌≡◌, ℕ, ◌+◌, ◌*◌, ◌/◌, ◌%◌, ◌^◌, ◌<◌, ◌≤◌, Bool, true, false, cond, eqb, List, [], ◌∷◌, ◌++◌, length, get_or, take, drop, Ok, Err, Result, sym, refl, ap, ◌∙◌, ⊎_elim, arith, lit<, length-append}
use Rattle.std.proofs.lemmas.Bool.{cond-true, cond-false, le-ltb, ltb-false, eq-eqb, eqb-true, cases_Bool}
use Rattle.std.proofs.lemmas.List.{take_at, drop_at, take-append-drop, length-take-le, nil_from_length, append-nil}
use Rattle.records.specs.declared.PaperKind.{PaperKind}
use Rattle.records.specs.declared.PaperKind.TheVariants.{Plan, Diagram, Formula, Proof}
use Rattle.records.specs.declared.PaperKind.TheVariants as kinds
use Rattle.records.specs.declared.RecordFault.{RecordFault}
use Rattle.records.specs.declared.RecordFault.TheVariants.{WrongKind, WrongLength}
use Rattle.records.specs.Cuts.{le2, le4, Split, split, cut_at, size_in, kind_in}
use Rattle.records.specs.Kinds.{code_of, entry_of}
use Rattle.records.specs.Papers.{little_endian, head_of, Holds, Exact}
use Rattle.records.proofs.Heads.{cut_whole}
use Rattle.records.specs.Single.{and_then, ended, suited, single_in}

module _ {X E : Type 0} where
  -- a fault is no answer
  err_not_ok : (e : E) (x : X) → ◌≡◌ {A = Result X E} (Err e) (Ok x) → ⊥
  err_not_ok e x is = let z : ◌≡◌ {A = ℕ} 0 1 = cc in omega arith

  -- an answer's value
  ok_same : (x y : X) → ◌≡◌ {A = Result X E} (Ok x) (Ok y) → x ≡ y
  ok_same x y is = cc

  -- an answer past a test that refuses where it is true
  ok_left : (b : Bool) (e : E) (r : Result X E) (x : X) → cond b (Err e) r ≡ Ok x → (b ≡ false) × (r ≡ Ok x)
  ok_left true e r x is = absurd (err_not_ok e x is)
  ok_left false e r x is = (refl, is)

  -- an answer past a test that refuses where it is false
  ok_right : (b : Bool) (e : E) (r : Result X E) (x : X) → cond b r (Err e) ≡ Ok x → (b ≡ true) × (r ≡ Ok x)
  ok_right true e r x is = (refl, is)
  ok_right false e r x is = absurd (err_not_ok e x is)

-- an answer of two steps
ok_then : {X Y E : Type 0} (r : Result X E) (f : X → Result Y E) (y : Y) → and_then r f ≡ Ok y → (x : X) × (r ≡ Ok x) × (f x ≡ Ok y)
ok_then (Ok x) f y is = (x, refl, is)
ok_then (Err e) f y is = absurd (err_not_ok e y is)

-- one byte off a number
low : (n b rest : ℕ) → n ≡ b + rest * 256 → b < 256 → (n % 256 ≡ b) × (n / 256 ≡ rest)
low n b rest e h = (omega arith, omega arith)

-- bytes read as a number and written again
pub four_again : (a b c d : ℕ) → a < 256 → b < 256 → c < 256 → d < 256 → little_endian 4 (le4 a b c d) ≡ a ∷ (b ∷ (c ∷ (d ∷ [])))
four_again a b c d p q r s =
    let first = low (le4 a b c d) a (b + c * 256 + d * 65536) (omega arith) p in
    let second = low _ b (c + d * 256) (first.1 ∙ omega arith) q in
    let third = low _ c d second.1 r in
    let fourth = low _ d 0 (third.1 ∙ omega arith) s in
    λ i. first.0 i ∷ (second.0 i ∷ (third.0 i ∷ (fourth.0 i ∷ [])))

pub two_again : (a b : ℕ) → a < 256 → b < 256 → little_endian 2 (le2 a b) ≡ a ∷ (b ∷ [])
two_again a b p q =
    let first = low (le2 a b) a b refl p in
    let second = low _ b 0 (first.1 ∙ omega arith) q in
    λ i. first.0 i ∷ (second.0 i ∷ [])

-- a number written as bytes and read again
pub four_read : (n : ℕ) → n < 2 ^ 32 → le4 (n % 256) (n / 256 % 256) (n / 256 / 256 % 256) (n / 256 / 256 / 256 % 256) ≡ n
four_read n h = omega arith

pub two_read : (n : ℕ) → n < 2 ^ 16 → le2 (n % 256) (n / 256 % 256) ≡ n
two_read n h = omega arith

-- six bytes and what follows
six : (bs : List ℕ) → 6 ≤ length bs → bs ≡ get_or bs 0 0 ∷ (get_or bs 1 0 ∷ (get_or bs 2 0 ∷ (get_or bs 3 0 ∷ (get_or bs 4 0 ∷ (get_or bs 5 0 ∷ drop 6 bs)))))
six [] h = absurd (omega arith)
six (a ∷ []) h = absurd (omega arith)
six (a ∷ (b ∷ [])) h = absurd (omega arith)
six (a ∷ (b ∷ (c ∷ []))) h = absurd (omega arith)
six (a ∷ (b ∷ (c ∷ (d ∷ [])))) h = absurd (omega arith)
six (a ∷ (b ∷ (c ∷ (d ∷ (e ∷ []))))) h = absurd (omega arith)
six (a ∷ (b ∷ (c ∷ (d ∷ (e ∷ (f ∷ bs)))))) h = refl

-- a head read and written again
head_again : (bs : List ℕ) → ((i : ℕ) → get_or bs i 0 < 256) → head_of (size_in bs) (kind_in bs) ≡ get_or bs 0 0 ∷ (get_or bs 1 0 ∷ (get_or bs 2 0 ∷ (get_or bs 3 0 ∷ (get_or bs 4 0 ∷ (get_or bs 5 0 ∷ [])))))
head_again bs small = λ i. four_again _ _ _ _ (small 0) (small 1) (small 2) (small 3) i ++ two_again _ _ (small 4) (small 5) i

module _ (at : ℕ) (bs : List ℕ) (r : Split) (is : cut_at at bs ≡ Ok r) where
  -- a record that was cut off had its six bytes and its body
  cut_room : (6 ≤ length bs) × (size_in bs ≤ length (drop 6 bs)) × (split (kind_in bs) (take (size_in bs) (drop 6 bs)) (drop (size_in bs) (drop 6 bs)) ≡ r)
  cut_room =
      let head = ok_left _ _ _ _ is in
      let whole = ok_left _ _ _ _ head.1 in
      (ltb-false _ _ head.0, ltb-false _ _ whole.0, ok_same _ _ whole.1)

  -- what a record is cut off from, where all are bytes
  pub cut_written : ((i : ℕ) → get_or bs i 0 < 256) → bs ≡ head_of (length r.body) r.kind ++ (r.body ++ r.rest)
  cut_written small =
      let size = size_in bs in
      let tail = drop 6 bs in
      let long : length (take size tail) ≡ size = length-take-le size tail cut_room.1 in
      six bs cut_room.0 ∙ ap (λ head. head ++ tail) (sym (head_again bs small)) ∙ (λ i. head_of (sym long i) (kind_in bs) ++ sym (take-append-drop size tail) i) ∙ ap (λ q. head_of (length q.body) q.kind ++ (q.body ++ q.rest)) cut_room.2

-- what is written is cut off again
pub written_cut : (at kind : ℕ) (body rest : List ℕ) → kind < 2 ^ 16 → length body < 2 ^ 32 → cut_at at (head_of (length body) kind ++ (body ++ rest)) ≡ Ok (split kind body rest)
written_cut at kind body rest k n =
    let size = four_read (length body) n in
    let fits : size_in (head_of (length body) kind ++ (body ++ rest)) ≤ length (body ++ rest) = omega (arith, size, length-append body rest) in
    cut_whole at (head_of (length body) kind ++ (body ++ rest)) (omega arith) fits ∙ (λ i. Ok (split (two_read kind k i) (take (size i) (body ++ rest)) (drop (size i) (body ++ rest)))) ∙ (λ i. Ok (split kind (take_at body rest (length body) refl i) (drop_at body rest (length body) refl i)))

code_small : (kind : PaperKind) → code_of kind < 2 ^ 16
code_small kind = elim kind as (λ k. code_of k < 2 ^ 16) [ Plan ↦ lit< tt | kinds.List ↦ lit< tt | Diagram ↦ lit< tt | Formula ↦ lit< tt | Proof ↦ lit< tt ]

-- nothing follows a body that is accepted
ended_there : {X : Type 0} (at : ℕ) (rest : List ℕ) (x y : X) → ended at rest x ≡ Ok y → (length rest ≡ 0) × (x ≡ y)
ended_there at rest x y is = ⊎_elim (λ t. (eqb-true _ _ t, ok_same _ _ (sym (cond-true _ _ _ t) ∙ is))) (λ f. absurd (never (sym (cond-false _ _ _ f) ∙ is))) (cases_Bool (eqb (length rest) 0))
  where
    never : and_then (cut_at at rest) (λ _. Err (WrongKind at)) ≡ Ok y → ⊥
    never e = err_not_ok (WrongKind at) y (ok_then (cut_at at rest) (λ _. Err (WrongKind at)) y e).2

module _ (kind : PaperKind) (paper : List ℕ) where
  -- what is accepted is written so
  pub single_holds : ((i : ℕ) → get_or paper i 0 < 256) → (body : List ℕ) → single_in kind paper ≡ Ok body → Holds kind body paper
  single_holds small body is =
      let short = ok_left _ _ _ _ is in
      let cut = ok_then _ _ _ short.1 in
      let suits = ok_right _ _ _ _ cut.2 in
      let whole = ok_right _ _ _ _ suits.1 in
      let end = ended_there _ _ _ _ whole.1 in
      let same : paper ≡ head_of (length cut.0.body) (code_of kind) ++ cut.0.body = cut_written 0 paper cut.0 cut.1 small ∙ (λ i. head_of (length cut.0.body) (eqb-true _ _ suits.0 i) ++ (cut.0.body ++ nil_from_length cut.0.rest end.0 i)) ∙ ap (λ b. head_of (length cut.0.body) (code_of kind) ++ b) (append-nil cut.0.body) in
      record {
        short = ltb-false _ _ short.0;
        written = same ∙ ap (λ b. head_of (length b) (code_of kind) ++ b) end.1;
        entries = ap (λ b. length b % entry_of kind) (sym end.1) ∙ eqb-true _ _ whole.0;
      }

  -- what is written so is accepted
  pub holds_single : (body : List ℕ) → Holds kind body paper → single_in kind paper ≡ Ok body
  holds_single body h =
      let is : paper ≡ head_of (length body) (code_of kind) ++ (body ++ []) = h.written ∙ ap (λ b. head_of (length body) (code_of kind) ++ b) (sym (append-nil body)) in
      let few : length body < 2 ^ 32 = omega (arith, h.short, ap length h.written) in
      let cut : cut_at 0 paper ≡ Ok (split (code_of kind) body []) = ap (cut_at 0) is ∙ written_cut 0 (code_of kind) body [] (code_small kind) few in
      cond-false _ _ _ (le-ltb _ _ h.short) ∙ ap (λ c. and_then c (suited kind)) cut ∙ cond-true (eqb (code_of kind) (code_of kind)) _ (Err (WrongKind 0)) (eq-eqb (code_of kind) (code_of kind) refl) ∙ cond-true (eqb (length body % entry_of kind) 0) _ (Err (WrongLength 0)) (eq-eqb _ _ h.entries)

  -- so the answer is a body exactly when the paper holds it
  pub single_exact : ((i : ℕ) → get_or paper i 0 < 256) → (answer : Result (List ℕ) RecordFault) → answer ≡ single_in kind paper → Exact kind paper answer
  single_exact small answer is = record {
    accepted = λ body e. single_holds small body (sym is ∙ e);
    every = λ body h. is ∙ holds_single body h;
  }
