use Rattle.std.proofs.Common.{◌≡◌, ℕ, ◌<◌, List, [], length, sym, ap, ◌∙◌, arith, add-one, get_or, length-set}
use Rattle.logic.specs.Partial.{truth}
use Rattle.logic.specs.Views.{partial}
use Rattle.setpapers.specs.Decisions.{answers}
use Rattle.setpapers.specs.Diagrams.{entries, entry_at, root}
use Rattle.setpapers.specs.Entries.{entry_of}
use Rattle.setpapers.specs.Tabled.{table, bytes_at, get_or_table}
use Rattle.setpapers.proofs.Answered.{children_under, answered_here, answered_more}
use Rattle.setpapers.proofs.Chunks.{entry_bytes}
use Rattle.setpapers.proofs.Firsts.{row_count}
use Rattle.setpapers.proofs.diagram.DiagramKindSetKind.answer.Goals as goal

-- one of the rows is the entry of its number
entry_read : (bs : List ℕ) (rows : List (List ℕ)) → rows ≡ table (bytes_at 5 bs) (entries bs) → (i : ℕ) → i < length rows → (i < entries bs) × (entry_of (get_or rows i []) ≡ entry_at bs i)
entry_read bs rows are i h =
    let hi : i < entries bs = omega (arith, row_count (bytes_at 5 bs) (entries bs) rows are, h) in (
      hi,
      ap (λ xs. entry_of (get_or xs i [])) are ∙ ap entry_of (get_or_table (bytes_at 5 bs) (entries bs) i [] hi) ∙ entry_bytes bs i,
    )

pub bounds-answered-i : goal.bounds-answered-i
bounds-answered-i c =
    let s = c.args.set.now in
    let read = entry_read s.body.now c.entries-entry-items.result.now c.entries-entry-items.ensures c.loop-i.i c.loop-i-test.true in
    omega (arith, s.few, read.0)

pub entry_answer-root-requires : goal.entry_answer-root-requires
entry_answer-root-requires c =
    let s = c.args.set.now in
    let rows = c.entries-entry-items.result.now in
    let read = entry_read s.body.now rows c.entries-entry-items.ensures c.loop-i.i c.loop-i-test.true in
    let under = children_under s.width (entry_at s.body.now) (entries s.body.now) s.fine c.loop-i.i (length c.loop-i.answered) read.0 (omega (arith, s.few, read.0, c.loop-i.invariant.0)) (entry_of (get_or rows c.loop-i.i [])) read.1 in
    record { low = under.0; high = under.1 }

pub loop-i-preserved : goal.loop-i-preserved
loop-i-preserved c =
    let s = c.args.set.now in
    let bs = s.body.now in
    let rows = c.entries-entry-items.result.now in
    let ρ = truth (partial c.args.cube.now) in
    let e = entry_at bs in
    let i = c.loop-i.i in
    let r = c.entry_answer-root.result in
    let read = entry_read bs rows c.entries-entry-items.ensures i c.loop-i-test.true in
    let here = answered_here s.width e (entries bs) s.fine ρ c.loop-i.answered i (entry_of (get_or rows i [])) r read.1 read.0 c.loop-i.invariant.1 c.entry_answer-root.ensures in (
      omega (arith, length-set c.loop-i.answered i r, c.loop-i.invariant.0),
      answered_more ρ e c.loop-i.answered i r (omega (arith, s.few, read.0, c.loop-i.invariant.0)) c.loop-i.invariant.1 here,
      here ∙ ap (λ n. answers ρ (root e n)) (sym (add-one i)),
    )

pub returns : goal.returns
returns c =
    let bs = c.args.set.now.body.now in
    let all : c.loop-i.i ≡ entries bs = omega (arith, row_count (bytes_at 5 bs) (entries bs) c.entries-entry-items.result.now c.entries-entry-items.ensures, c.loop-i-test.false) in
    c.loop-i.invariant.2 ∙ ap (λ n. answers (truth (partial c.args.cube.now)) (root (entry_at bs) n)) all
