-- Records that are whole.
use Rattle.std.proofs.Common.{◌≡◌, ℕ, ◌≤◌, List, length, take, drop, Ok, ◌∙◌}
use Rattle.std.proofs.lemmas.Bool.{cond-false, le-ltb}
use Rattle.records.specs.Cuts.{split, cut_at, size_in, kind_in}

-- a record whose head and body are all there is cut off
pub cut_whole : (at : ℕ) (bs : List ℕ) → 6 ≤ length bs → size_in bs ≤ length (drop 6 bs) → cut_at at bs ≡ Ok (split (kind_in bs) (take (size_in bs) (drop 6 bs)) (drop (size_in bs) (drop 6 bs)))
cut_whole at bs h k = cond-false _ _ _ (le-ltb (length bs) 6 h) ∙ cond-false _ _ _ (le-ltb _ _ k)
