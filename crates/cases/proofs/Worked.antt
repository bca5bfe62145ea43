-- The worked examples, by computation.
use Rattle.std.proofs.Common.{refl}
use lib.Count.{ones, ones_in}
use Rattle.logic.specs.Bit.{bit}
use Rattle.logic.specs.Words.{word}
use Rattle.setpapers.specs.Count.{tally}
use Rattle.setpapers.specs.FormulaSets.{decoded_at, named_by}
use Rattle.setpapers.specs.Lists.{state_at}
use Rattle.setpapers.specs.Rows.{first}
use Rattle.setpapers.specs.Tabled.{table}
use Rattle.trees.specs.Check.{halves_at}
use Rattle.cases.specs.Examples.{WorkedExamples}

-- each line computes
pub worked : WorkedExamples
unfolding bit word tally state_at decoded_at named_by table first halves_at ones ones_in
worked = record {
  blade_read = refl;
  variant_read = refl;
  plan_accepted = refl;
  plan_too_soon_refused = record { answer = refl; number = refl; layer = refl; place = refl };
  plan_of_none_refused = record { answer = refl; number = refl; layer = refl; place = refl };
  plan_of_two_refused = record { answer = refl; number = refl; layer = refl; place = refl };
  swap_clears = refl;
  swap_sets = refl;
  set_wins_over_true = refl;
  set_wins_over_false = refl;
  formula_read = refl;
  formula_open = refl;
  list_read = refl;
  list_inside = refl;
  both_read = refl;
  proof_by_list = refl;
  neither_read = refl;
  proof_by_formula = refl;
  zero_read = refl;
  proof_unsettled = record { answer = refl; number = refl; layer = refl; place = refl };
  one_read = refl;
  proof_without_start = record { answer = refl; number = refl; layer = refl; place = refl };
  plain_tree_written = refl;
  plain_body = refl;
  plain_accepted = refl;
}
