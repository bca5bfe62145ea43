-- A call adds its event.
use Rattle.std.proofs.Common.{◌≡◌, ℕ, ◌+◌, ◌<◌, true, List, [], ◌∷◌, ◌++◌, length, get_or, take, Some, None, Option, sym, refl, ap, ◌∙◌, subst, inl}
use Rattle.std.proofs.lemmas.List.{take_more}
use Rattle.logic.specs.Partial.{PartialState}
use Rattle.logic.specs.declared.truth.Truth.{Truth}
use Rattle.costs.specs.Kind.{Kind}
use Rattle.planning.specs.Model.{Model}
use Rattle.card.specs.declared.card.Card.{Card}
use Rattle.card.specs.declared.card.Walk.{Walk}
use Rattle.card.specs.declared.desk.Call.{Call}
use Rattle.card.specs.declared.desk.Desk.{Desk}
use Rattle.card.specs.declared.desk.Desk.TheVariants.{Idle, Busy}
use Rattle.card.specs.declared.desk.Reply.{Reply}
use Rattle.card.specs.History.{Event, History, walk}
use Rattle.card.specs.Law.{Keeps, Walks}
use Rattle.card.specs.Desks.{Stands, in_turn, Made, Next, Follows, Works}

module _ {C S P : Type 0} (K : Kind C) (ask : S → PartialState → Truth) (bytes : P → List ℕ) {call shape : Call S P} (eq : call ≡ shape) where
  heard : (e : Event C) (reply : Reply C) (h : History C) (w : Option (List ℕ)) → walk h ≡ w → in_turn shape w ≡ true → Made ask bytes shape reply e → Next ask bytes call reply h (e ∷ h)
  heard e reply h w under turn made =
      inl (record {
        turn = subst (λ c. in_turn c (walk h) ≡ true) (sym eq) (ap (in_turn shape) under ∙ turn);
        event = e;
        made = subst (λ c. Made ask bytes c reply e) (sym eq) made;
        grown = refl;
      })

  module _ {desk : Desk C} (card : Card C) (is : desk ≡ Idle card) where
    pub idle_heard : (e : Event C) (reply : Reply C) (after : Desk C) → in_turn {X = List ℕ} shape None ≡ true → Made ask bytes shape reply e → ((m : Model) (h : History C) → Keeps K m h card → Stands K m (e ∷ h) after) → (m : Model) (h : History C) → Stands K m h desk → (g : History C) × Next ask bytes call reply h g × Stands K m g after
    idle_heard e reply after turn made law m h s =
        let k = subst (Stands K m h) is s in
        (e ∷ h, heard e reply h None k.idle turn made, law m h k)

  module _ {desk : Desk C} (w : Walk C) (is : desk ≡ Busy w) where
    pub busy_heard : (e : Event C) (reply : Reply C) (after : Desk C) → ((os : List ℕ) → in_turn shape (Some os) ≡ true) → Made ask bytes shape reply e → ((m : Model) (h : History C) → Walks K m h w → Stands K m (e ∷ h) after) → (m : Model) (h : History C) → Stands K m h desk → (g : History C) × Next ask bytes call reply h g × Stands K m g after
    busy_heard e reply after turn made law m h s =
        let k = subst (Stands K m h) is s in
        (e ∷ h, heard e reply h (Some k.steps) k.under_way (turn k.steps) made, law m h k)

-- one call more
follows_push : {C S P : Type 0} (ask : S → PartialState → Truth) (bytes : P → List ℕ) (cs : List (Call S P)) (rs : List (Reply C)) (c : Call S P) (r : Reply C) (h f g : History C) → Follows ask bytes cs rs h f → Next ask bytes c r f g → Follows ask bytes (cs ++ (c ∷ [])) (rs ++ (r ∷ [])) h g
follows_push ask bytes [] [] c r h f g e n = (g, subst (λ x. Next ask bytes c r x g) e n, refl)
follows_push ask bytes [] (q ∷ rs) c r h f g e n = absurd e
follows_push ask bytes (d ∷ cs) [] c r h f g e n = absurd e
follows_push ask bytes (d ∷ cs) (q ∷ rs) c r h f g e n = (e.0, e.1, follows_push ask bytes cs rs c r e.0 f g e.2 n)

take_next : {X : Type 0} (xs : List X) (i : ℕ) (x : X) → i < length xs → x ≡ get_or xs i x → take (i + 1) xs ≡ take i xs ++ (x ∷ [])
take_next xs i x within read = take_more xs i x within ∙ ap (λ y. take i xs ++ (y ∷ [])) (sym read)

pub works_push : {C S P : Type 0} (K : Kind C) (ask : S → PartialState → Truth) (bytes : P → List ℕ) (m : Model) (cs : List (Call S P)) (i : ℕ) (c : Call S P) → i < length cs → c ≡ get_or cs i c → (rs qs : List (Reply C)) (r : Reply C) → qs ≡ rs ++ (r ∷ []) → (h : History C) (desk next : Desk C) (before : Works K ask bytes m (take i cs) rs h desk) → (g : History C) × Next ask bytes c r before.after g × Stands K m g next → Works K ask bytes m (take (i + 1) cs) qs h next
works_push K ask bytes m cs i c within read rs qs r grown h desk next before after = record {
  after = after.0;
  follows =
      subst (λ ds. Follows ask bytes ds qs h after.0) (sym (take_next cs i c within read))
      (subst (λ ps. Follows ask bytes (take i cs ++ (c ∷ [])) ps h after.0) (sym grown) (follows_push ask bytes (take i cs) rs c r h before.after after.0 before.follows after.1));
  stands = after.2;
}
