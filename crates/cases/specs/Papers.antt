-- The papers of the worked examples, as bytes, and the tasks that two of them stand for.
use Rattle.std.specs.Prelude.{ℕ, List, [], ◌∷◌, ◌++◌, Some}
use Rattle.formulas.specs.declared.node.Node.TheVariants.{Variable, Not, Set, Clear, Both, When}
use Rattle.task.specs.Entries.{operator}
use Rattle.task.specs.Values.{Value, value}

-- ---- the blade task: fit the blade, calibrate it, release the machine

-- its paper: a header, twelve nodes, three operators and a goal, where calibrating wants the variable v
abbrev calibrating_on : ℕ → List ℕ
calibrating_on v =
    9 ∷ 0 ∷ 0 ∷ 0 ∷ 1 ∷ 0 ∷ 3 ∷ 0 ∷ 0 ∷ 0 ∷ 0 ∷ 0 ∷ 0 ∷ 0 ∷ 0
    ∷ 5 ∷ 0 ∷ 0 ∷ 0 ∷ 2 ∷ 0 ∷ 2 ∷ 0 ∷ 0 ∷ 0 ∷ 0
    ∷ 5 ∷ 0 ∷ 0 ∷ 0 ∷ 2 ∷ 0 ∷ 3 ∷ 0 ∷ 0 ∷ 0 ∷ 0
    ∷ 5 ∷ 0 ∷ 0 ∷ 0 ∷ 2 ∷ 0 ∷ 7 ∷ 0 ∷ 0 ∷ 0 ∷ 0
    ∷ 5 ∷ 0 ∷ 0 ∷ 0 ∷ 2 ∷ 0 ∷ 8 ∷ 1 ∷ 0 ∷ 0 ∷ 0
    ∷ 5 ∷ 0 ∷ 0 ∷ 0 ∷ 2 ∷ 0 ∷ 9 ∷ 2 ∷ 0 ∷ 3 ∷ 0
    ∷ 5 ∷ 0 ∷ 0 ∷ 0 ∷ 2 ∷ 0 ∷ 2 ∷ v ∷ 0 ∷ 0 ∷ 0
    ∷ 5 ∷ 0 ∷ 0 ∷ 0 ∷ 2 ∷ 0 ∷ 7 ∷ 1 ∷ 0 ∷ 0 ∷ 0
    ∷ 5 ∷ 0 ∷ 0 ∷ 0 ∷ 2 ∷ 0 ∷ 2 ∷ 1 ∷ 0 ∷ 0 ∷ 0
    ∷ 5 ∷ 0 ∷ 0 ∷ 0 ∷ 2 ∷ 0 ∷ 2 ∷ 0 ∷ 0 ∷ 0 ∷ 0
    ∷ 5 ∷ 0 ∷ 0 ∷ 0 ∷ 2 ∷ 0 ∷ 7 ∷ 2 ∷ 0 ∷ 0 ∷ 0
    ∷ 5 ∷ 0 ∷ 0 ∷ 0 ∷ 2 ∷ 0 ∷ 10 ∷ 8 ∷ 0 ∷ 9 ∷ 0
    ∷ 5 ∷ 0 ∷ 0 ∷ 0 ∷ 2 ∷ 0 ∷ 2 ∷ 2 ∷ 0 ∷ 0 ∷ 0
    ∷ 12 ∷ 0 ∷ 0 ∷ 0 ∷ 3 ∷ 0 ∷ 1 ∷ 0 ∷ 4 ∷ 0 ∷ 40 ∷ 0 ∷ 0 ∷ 0 ∷ 2 ∷ 0 ∷ 0 ∷ 0
    ∷ 12 ∷ 0 ∷ 0 ∷ 0 ∷ 3 ∷ 0 ∷ 5 ∷ 0 ∷ 6 ∷ 0 ∷ 25 ∷ 0 ∷ 0 ∷ 0 ∷ 1 ∷ 0 ∷ 0 ∷ 0
    ∷ 12 ∷ 0 ∷ 0 ∷ 0 ∷ 3 ∷ 0 ∷ 7 ∷ 0 ∷ 10 ∷ 0 ∷ 5 ∷ 0 ∷ 0 ∷ 0 ∷ 1 ∷ 0 ∷ 0 ∷ 0
    ∷ 2 ∷ 0 ∷ 0 ∷ 0 ∷ 4 ∷ 0 ∷ 11 ∷ 0 ∷ []

-- calibrating wants a fitted blade
abbrev pub blade_paper : List ℕ
blade_paper = calibrating_on 0

-- the variant: calibrating wants a released machine, and there is no plan
abbrev pub variant_paper : List ℕ
variant_paper = calibrating_on 2

-- the task that such a paper stands for, written out
abbrev calibrating : ℕ → Value
calibrating v =
    value 3 0
    (Variable 0 ∷ Not 0 ∷ Set 0 ∷ Clear 1 ∷ Both 2 3 ∷ Variable v ∷ Set 1 ∷ Variable 1 ∷ Variable 0 ∷ Set 2 ∷ When 8 9 ∷ Variable 2 ∷ [])
    (operator 1 4 40 2 ∷ operator 5 6 25 1 ∷ operator 7 10 5 1 ∷ [])
    (Some 11)

-- the blade task
abbrev pub blade : Value
blade = calibrating 0

-- its variant
abbrev pub variant : Value
variant = calibrating 2

-- ---- plans

-- fit, calibrate, release
abbrev pub plan_of_three : List ℕ
plan_of_three = 6 ∷ 0 ∷ 0 ∷ 0 ∷ 5 ∷ 0 ∷ 0 ∷ 0 ∷ 1 ∷ 0 ∷ 2 ∷ 0 ∷ []

-- fit, release
abbrev pub plan_too_soon : List ℕ
plan_too_soon = 4 ∷ 0 ∷ 0 ∷ 0 ∷ 5 ∷ 0 ∷ 0 ∷ 0 ∷ 2 ∷ 0 ∷ []

-- no step
abbrev pub plan_of_none : List ℕ
plan_of_none = 0 ∷ 0 ∷ 0 ∷ 0 ∷ 5 ∷ 0 ∷ []

-- fit, calibrate
abbrev pub plan_of_two : List ℕ
plan_of_two = 4 ∷ 0 ∷ 0 ∷ 0 ∷ 5 ∷ 0 ∷ 0 ∷ 0 ∷ 1 ∷ 0 ∷ []

-- ---- sets, as the bodies of their papers, and the papers

-- the states 0 and 1, each in eight bytes
abbrev pub zero_and_one : List ℕ
zero_and_one = 0 ∷ 0 ∷ 0 ∷ 0 ∷ 0 ∷ 0 ∷ 0 ∷ 0 ∷ 1 ∷ 0 ∷ 0 ∷ 0 ∷ 0 ∷ 0 ∷ 0 ∷ 0 ∷ []

-- their list
abbrev pub list_of_both : List ℕ
list_of_both = 16 ∷ 0 ∷ 0 ∷ 0 ∷ 6 ∷ 0 ∷ zero_and_one

-- the state 0
abbrev pub zero_alone : List ℕ
zero_alone = 0 ∷ 0 ∷ 0 ∷ 0 ∷ 0 ∷ 0 ∷ 0 ∷ 0 ∷ []

-- its list
abbrev pub list_of_zero : List ℕ
list_of_zero = 8 ∷ 0 ∷ 0 ∷ 0 ∷ 6 ∷ 0 ∷ zero_alone

-- the state 1
abbrev pub one_alone : List ℕ
one_alone = 1 ∷ 0 ∷ 0 ∷ 0 ∷ 0 ∷ 0 ∷ 0 ∷ 0 ∷ []

-- its list
abbrev pub list_of_one : List ℕ
list_of_one = 8 ∷ 0 ∷ 0 ∷ 0 ∷ 6 ∷ 0 ∷ one_alone

-- the nodes of v0 or not v0
abbrev pub either_way : List ℕ
either_way = 2 ∷ 0 ∷ 0 ∷ 0 ∷ 0 ∷ 2 ∷ 0 ∷ 0 ∷ 0 ∷ 0 ∷ 3 ∷ 1 ∷ 0 ∷ 0 ∷ 0 ∷ 5 ∷ 0 ∷ 0 ∷ 2 ∷ 0 ∷ []

-- the formula of them
abbrev pub formula_either_way : List ℕ
formula_either_way = 20 ∷ 0 ∷ 0 ∷ 0 ∷ 8 ∷ 0 ∷ either_way

-- the nodes of not v1 and not v2
abbrev pub neither : List ℕ
neither = 2 ∷ 1 ∷ 0 ∷ 0 ∷ 0 ∷ 3 ∷ 0 ∷ 0 ∷ 0 ∷ 0 ∷ 2 ∷ 2 ∷ 0 ∷ 0 ∷ 0 ∷ 3 ∷ 2 ∷ 0 ∷ 0 ∷ 0 ∷ 4 ∷ 1 ∷ 0 ∷ 3 ∷ 0 ∷ []

-- the formula of them
abbrev pub formula_neither : List ℕ
formula_neither = 25 ∷ 0 ∷ 0 ∷ 0 ∷ 8 ∷ 0 ∷ neither

-- ---- proofs

-- a proof that the variant has no plan: its four trees split one variable each
abbrev pub short_proof : List ℕ
short_proof = 12 ∷ 0 ∷ 0 ∷ 0 ∷ 9 ∷ 0 ∷ 2 ∷ 255 ∷ 255 ∷ 2 ∷ 255 ∷ 255 ∷ 2 ∷ 255 ∷ 255 ∷ 1 ∷ 255 ∷ 255 ∷ []

-- the plain tree of the states 0 and 1 among three variables
abbrev pub tree_of_both : List ℕ
tree_of_both = 0 ∷ 1 ∷ 2 ∷ 255 ∷ 255 ∷ 255 ∷ 1 ∷ 2 ∷ 255 ∷ 255 ∷ 255 ∷ []

-- that tree for the goal, and for each of the three operators
abbrev pub four_trees : List ℕ
four_trees = tree_of_both ++ (tree_of_both ++ (tree_of_both ++ tree_of_both))

-- the plain proof
abbrev pub plain_proof : List ℕ
plain_proof = 44 ∷ 0 ∷ 0 ∷ 0 ∷ 9 ∷ 0 ∷ four_trees
