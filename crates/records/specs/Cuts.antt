-- How a record is cut off the front of a list of bytes.
use Rattle.std.specs.Prelude.{ℕ, ◌+◌, ◌*◌, cond, List, length, take, drop, Ok, Err, Result, nat_lt, slice_index}
use Rattle.std.specs.Borrow.{Bor}
use Rattle.records.specs.declared.RecordFault.{RecordFault}
use Rattle.records.specs.declared.RecordFault.TheVariants.{CutShort}
use Rattle.records.specs.declared.Cut.{Cut}

-- a number of two bytes, the lowest first
abbrev pub le2 : ℕ → ℕ → ℕ
le2 a b = a + b * 256

-- a number of four bytes, the lowest first
abbrev pub le4 : ℕ → ℕ → ℕ → ℕ → ℕ
le4 a b c d = a + b * 256 + c * 65536 + d * 16777216

-- a record's kind and body, and what follows it
pub record Split : Type 0 where
  pub kind : ℕ
  pub body : List ℕ
  pub rest : List ℕ

-- the same, made of its parts
abbrev pub split : ℕ → List ℕ → List ℕ → Split
split k b r = record { kind = k; body = b; rest = r }

-- a result that holds a reference, with the bytes that it points to
abbrev pub seen : {E : Type 0} → Result (Bor (List ℕ)) E → Result (List ℕ) E
seen (Ok x) = Ok x.now
seen (Err e) = Err e

-- a record that the code cut off, with the bytes that it points to
abbrev pub viewed : {E : Type 0} → Result Cut E → Result Split E
viewed (Ok c) = Ok (split c.kind c.body.now c.rest.now)
viewed (Err e) = Err e

-- the length of the body, as the first four bytes of a head say
abbrev pub size_in : List ℕ → ℕ
size_in bs = le4 (slice_index bs 0) (slice_index bs 1) (slice_index bs 2) (slice_index bs 3)

-- the kind, as the last two bytes of a head say
abbrev pub kind_in : List ℕ → ℕ
kind_in bs = le2 (slice_index bs 4) (slice_index bs 5)

-- the first record of the bytes, which begin at `at` in their paper, or the fault that they are too few
abbrev pub cut_at : ℕ → List ℕ → Result Split RecordFault
cut_at at bs =
    cond (nat_lt (length bs) 6) (Err (CutShort at))
    (cond (nat_lt (length (drop 6 bs)) (size_in bs)) (Err (CutShort at)) (Ok (split (kind_in bs) (take (size_in bs) (drop 6 bs)) (drop (size_in bs) (drop 6 bs)))))
