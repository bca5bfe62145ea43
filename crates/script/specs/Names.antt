-- The words that name things in a script.
use Rattle.std.specs.Prelude.{◌≡◌, ℕ, List, ◌++◌, Some, None, Ok, Err, codes, Option, Result, ◌≢◌}
use Rattle.script.specs.declared.kind.Measure.{Measure}
use Rattle.script.specs.declared.kind.Measure.TheVariants.{Minutes, Crew, Steps}
use Rattle.script.specs.declared.kind.KindWords.{KindWords}
use Rattle.script.specs.declared.kind.KindWords.TheVariants.{One, Two}
use Rattle.script.specs.declared.set.SetPaper.TheVariants as papers
use Rattle.script.specs.declared.set.Pairing.TheVariants as pairings
use Rattle.script.specs.declared.set.SetName.{SetName}
use Rattle.script.specs.declared.set.SetName.TheVariants as sets
use Rattle.script.specs.declared.command.Verb.{Verb}
use Rattle.script.specs.declared.command.Verb.TheVariants.{Task, Open, Plan, Proof, Begin, Step, Finish, GiveUp, Card}
use Rattle.script.specs.declared.command.Command.{Command}
use Rattle.script.specs.declared.command.Command.TheVariants as commands

-- the answer is what the word names, and none exactly where it names nothing
abbrev pub Names : {V : Type 0} → (V → List ℕ) → List ℕ → Option V → Type 0
Names name word (Some v) = word ≡ name v
Names name word None = (v : _) → word ≢ name v

-- the value that the word names, or an error that it names none
abbrev pub NameRead : {V E : Type 0} → (V → List ℕ) → List ℕ → Result V E → Type 0
NameRead name word (Ok v) = Names name word (Some v)
NameRead name word (Err e) = Names name word None

-- the name of a measure
abbrev pub measure_name : Measure → List ℕ
measure_name Minutes = codes "minutes"
measure_name Crew = codes "crew"
measure_name Steps = codes "steps"

-- the name of a kind of cost: that of its measure, or those of two with a comma between
abbrev pub kind_name : KindWords → List ℕ
kind_name (One measure) = measure_name measure
kind_name (Two first second) = measure_name first ++ codes "," ++ measure_name second

-- the name of a sort of set
abbrev pub set_name : SetName → List ℕ
set_name (sets.Paper papers.List) = codes "list"
set_name (sets.Paper papers.Diagram) = codes "diagram"
set_name (sets.Paper papers.Formula) = codes "formula"
set_name sets.Complement = codes "complement"
set_name (sets.Pair pairings.Meeting) = codes "meeting"
set_name (sets.Pair pairings.Joining) = codes "joining"

-- the first word of a command
abbrev pub verb_name : Verb → List ℕ
verb_name Task = codes "task"
verb_name Open = codes "open"
verb_name Plan = codes "plan"
verb_name Proof = codes "proof"
verb_name Begin = codes "begin"
verb_name Step = codes "step"
verb_name Finish = codes "finish"
verb_name GiveUp = codes "give-up"
verb_name Card = codes "card"

-- the verb of a command
abbrev pub verb_of : Command → Verb
verb_of (commands.Task paper) = Task
verb_of (commands.Open kind) = Open
verb_of (commands.Plan paper) = Plan
verb_of (commands.Proof set paper) = Proof
verb_of commands.Begin = Begin
verb_of (commands.Step number) = Step
verb_of commands.Finish = Finish
verb_of commands.GiveUp = GiveUp
verb_of commands.Card = Card

-- the word is the first word of the command
abbrev pub Calls : List ℕ → Command → Type 0
Calls word command = word ≡ verb_name (verb_of command)
