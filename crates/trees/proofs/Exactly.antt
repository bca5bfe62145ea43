-- The check of a tree accepts the lawful trees, and no other.
use Rattle.std.proofs.Common.{◌≡◌, ℕ, zero, suc, ◌+◌, ◌<◌, ◌≤◌, Bool, true, false, cond, eqb, ltb, ◌⊎◌, ◌↔◌, List, [], ◌∷◌, ◌++◌, length, get_or, drop, Ok, Err, Result, sym, refl, ap, ◌∙◌, ap₂, inl, inr, ⊎_elim, arith, length-append, length-drop}
use Rattle.std.specs.List.{flat_map}
use Rattle.std.proofs.lemmas.List.{append_assoc, drop_more, drop_all, drop-drop, drop_at}
use Rattle.std.proofs.lemmas.Bool.{cases_lt, cond-false, eqb-true, ltb-true, ltb-false, le-ltb}
use Rattle.trees.specs.declared.fault.TreeFault.{TreeFault}
use Rattle.trees.specs.declared.fault.TreeFault.TheVariants.{Trailing}
use Rattle.logic.specs.Partial.{PartialState, Fine, is_free, free_count, lower, upper}
use Rattle.records.specs.Single.{and_then}
use Rattle.trees.specs.Check.{halves_at, tree_at, trees_from, body_verdict}
use Rattle.trees.specs.Tree.{Tree, leaf, split, preorder, Lawful, LawfulEach, Proves}
use Rattle.logic.proofs.Halves.{below, fine_lower, fine_upper}
use Rattle.trees.proofs.Steps.{tree_leaf, tree_split}

-- ---- places in a body

-- from the place `at` to the place `end` the body reads `word`
record Stands (word body : List ℕ) (at end : ℕ) : Type 0 where
  ends : end ≡ at + length word
  reads : drop at body ≡ word ++ drop end body

-- a lawful tree of the cube c is written from `at` to `end`
record HasTree (settled : PartialState → Bool) (c : PartialState) (body : List ℕ) (at end : ℕ) : Type 0 where
  tree : Tree
  lawful : Lawful settled tree c
  stands : Stands (preorder tree) body at end

-- past a word
drop_word : (body x y : List ℕ) (at : ℕ) → drop at body ≡ x ++ y → drop (at + length x) body ≡ y
drop_word body x y at e = sym (drop-drop (length x) at body) ∙ ap (drop (length x)) e ∙ drop_at x y (length x) refl

drop_head : (body : List ℕ) (at b : ℕ) (xs : List ℕ) → drop at body ≡ b ∷ xs → (at < length body) × (b ≡ get_or body at 0) × (drop (at + 1) body ≡ xs)
drop_head body at b xs e =
    ⊎_elim
    (λ h. let f = sym (drop_more body at 0 h) ∙ e in
    let head : b ≡ get_or body at 0 = cc in
    let tail : drop (at + 1) body ≡ xs = cc in
    (h, head, tail))
    (λ h. let f = sym (drop_all at body h) ∙ e in let z : ◌≡◌ {A = ℕ} 0 1 = cc in absurd (omega arith))
    (cases_lt at (length body))

-- a word in two parts
module _ (x y body : List ℕ) where
  stands_parts : (at end : ℕ) → Stands (x ++ y) body at end → Stands x body at (at + length x) × Stands y body (at + length x) end
  stands_parts at end s =
      let whole : drop at body ≡ x ++ (y ++ drop end body) = s.reads ∙ append_assoc x y (drop end body) in
      let rest = drop_word body x (y ++ drop end body) at whole in
      (record { ends = refl; reads = whole ∙ ap (λ z. x ++ z) (sym rest) }, record { ends = omega (arith, s.ends, length-append x y); reads = rest })

  stands_joined : (at middle end : ℕ) → Stands x body at middle → Stands y body middle end → Stands (x ++ y) body at end
  stands_joined at middle end s t = record {
    ends = omega (arith, s.ends, t.ends, length-append x y);
    reads = s.reads ∙ ap (λ z. x ++ z) t.reads ∙ sym (append_assoc x y (drop end body));
  }

-- ---- answers

never : {A X : Type 0} (u : TreeFault) (x : X) → ◌≡◌ {A = Result X TreeFault} (Err u) (Ok x) → A
never u x e = let z : ◌≡◌ {A = ℕ} 0 1 = cc in absurd (omega arith)

bound : {X : Type 0} (q : Result ℕ TreeFault) (k : ℕ → Result X TreeFault) (x : X) → and_then q k ≡ Ok x → (m : ℕ) × (q ≡ Ok m) × (k m ≡ Ok x)
bound (Ok m) k x e = (m, refl, e)
bound (Err u) k x e = never u x e

same_end : (x end : ℕ) → ◌≡◌ {A = Result ℕ TreeFault} (Ok x) (Ok end) → end ≡ x
same_end x end e = cc

-- what an accepted node is: a settled leaf, or a split
abbrev Accepted : (inside is_leaf good free : Bool) (x end : ℕ) (both : Result ℕ TreeFault) → Type 0
Accepted inside is_leaf good free x end both = (inside ≡ true) × (((is_leaf ≡ true) × (good ≡ true) × (end ≡ x)) ⊎ ((free ≡ true) × (both ≡ Ok end)))

accepted : (inside is_leaf good free : Bool) (x end : ℕ) (u v w : TreeFault) (both : Result ℕ TreeFault) → cond inside (cond is_leaf (cond good (Ok x) (Err u)) (cond free both (Err v))) (Err w) ≡ Ok end → Accepted inside is_leaf good free x end both
accepted true true true free x end u v w both e = (refl, inl (refl, refl, same_end x end e))
accepted true true false free x end u v w both e = never u end e
accepted true false good true x end u v w both e = (refl, inr (refl, e))
accepted true false good false x end u v w both e = never v end e
accepted false is_leaf good free x end u v w both e = never w end e

-- ---- one tree

module _ (settled : PartialState → Bool) (body : List ℕ) where
  leaf_found : (at end : ℕ) (c : PartialState) → at < length body → get_or body at 0 ≡ 255 → settled c ≡ true → end ≡ at + 1 → HasTree settled c body at end
  leaf_found at end c h b good e = record {
    tree = leaf;
    lawful = good;
    stands = record { ends = e; reads = drop_more body at 0 h ∙ ap₂ (λ x n. x ∷ drop n body) b (sym e) };
  }

  split_found : (at middle end : ℕ) (c : PartialState) → at < length body → is_free c (get_or body at 0) ≡ true → HasTree settled (lower c (get_or body at 0)) body (at + 1) middle → HasTree settled (upper c (get_or body at 0)) body middle end → HasTree settled c body at end
  split_found at middle end c h free low high =
      let b = get_or body at 0 in
      let both = stands_joined (preorder low.tree) (preorder high.tree) body (at + 1) middle end low.stands high.stands in
      record {
        tree = split b low.tree high.tree;
        lawful = (free, low.lawful, high.lawful);
        stands = record { ends = omega (arith, both.ends); reads = drop_more body at 0 h ∙ ap (λ xs. b ∷ xs) both.reads };
      }

  found : (free at end : ℕ) (c : PartialState) → tree_at settled body free at c ≡ Ok end → HasTree settled c body at end
  unfolding halves_at
  found zero at end c e =
      let a = accepted (ltb at (length body)) (eqb (get_or body at 0) 255) (settled c) (is_free c (get_or body at 0)) _ end _ _ _ _ e in
      ⊎_elim
      (λ p. leaf_found at end c (ltb-true _ _ a.0) (eqb-true _ _ p.0) p.1 p.2)
      (λ q. never _ end q.1)
      a.1
  found (suc free) at end c e =
      let b = get_or body at 0 in
      let a = accepted (ltb at (length body)) (eqb b 255) (settled c) (is_free c b) _ end _ _ _ _ e in
      ⊎_elim
      (λ p. leaf_found at end c (ltb-true _ _ a.0) (eqb-true _ _ p.0) p.1 p.2)
      (λ q.
      let m = bound (tree_at settled body free (at + 1) (lower c b)) (λ middle. tree_at settled body free middle (upper c b)) end q.1 in
      split_found at m.0 end c (ltb-true _ _ a.0) q.0 (found free (at + 1) m.0 (lower c b) m.1) (found free m.0 end (upper c b) m.2))
      a.1

  accept : (tree : Tree) (at end : ℕ) (c : PartialState) → Fine c → c.width ≤ 255 → Lawful settled tree c → Stands (preorder tree) body at end → tree_at settled body (free_count c) at c ≡ Ok end
  accept leaf at end c fine narrow good s =
      let p = drop_head body at 255 (drop end body) s.reads in
      tree_leaf settled body at c 255 p.0 p.1 (free_count c) true refl (sym good) ∙ ap Ok (sym s.ends)
  accept (split v low high) at end c fine narrow good s =
      let p = drop_head body at v ((preorder low ++ preorder high) ++ drop end body) s.reads in
      let free = good.0 in
      let parts = stands_parts (preorder low) (preorder high) body (at + 1) end (record { ends = omega (arith, s.ends); reads = p.2 }) in
      let inner : v ≡ 255 → ⊥ = λ e. omega (arith, below c v fine free, narrow) in
      tree_split settled body at c v p.0 p.1 fine inner free
      ∙ ap (λ q. and_then q (λ middle. tree_at settled body (free_count (upper c v)) middle (upper c v))) (accept low (at + 1) _ (lower c v) (fine_lower c v fine free) narrow good.1 parts.0)
      ∙ accept high _ end (upper c v) (fine_upper c v fine free) narrow good.2 parts.1

-- ---- a tree for each rule

no_more : (b : Bool) (u : TreeFault) → ◌≡◌ {A = Result (Unit {0}) TreeFault} (cond b (Err u) (Ok tt)) (Ok tt) → b ≡ false
no_more true u e = never u tt e
no_more false u e = refl

module _ (settles : ℕ → PartialState → Bool) (body : List ℕ) (c : PartialState) where
  -- lawful trees that the rest of the body is, for so many rules from `rule` on
  record Rest (left rule at : ℕ) : Type 0 where
    trees : List Tree
    number : length trees ≡ left
    lawful : LawfulEach settles rule trees c
    reads : drop at body ≡ flat_map preorder trees

  found_each : (left rule at : ℕ) → trees_from settles body c left rule at ≡ Ok tt → Rest left rule at
  found_each zero rule at e = record { trees = []; number = refl; lawful = tt; reads = drop_all at body (ltb-false _ _ (no_more (ltb at (length body)) (Trailing at) e)) }
  found_each (suc left) rule at e =
      let m = bound (tree_at (settles rule) body (free_count c) at c) (trees_from settles body c left (suc rule)) tt e in
      let one = found (settles rule) body (free_count c) at m.0 c m.1 in
      let more = found_each left (suc rule) m.0 m.2 in
      record {
        trees = one.tree ∷ more.trees;
        number = omega (arith, more.number);
        lawful = (one.lawful, more.lawful);
        reads = one.stands.reads ∙ ap (λ z. preorder one.tree ++ z) more.reads;
      }

  module _ (fine : Fine c) (narrow : c.width ≤ 255) where
    accept_each : (trees : List Tree) (rule at : ℕ) → LawfulEach settles rule trees c → drop at body ≡ flat_map preorder trees → trees_from settles body c (length trees) rule at ≡ Ok tt
    accept_each [] rule at good e = cond-false _ _ _ (le-ltb at (length body) (omega (arith, length-drop at body, ap length e)))
    accept_each (tree ∷ trees) rule at good e =
        let rest = drop_word body (preorder tree) (flat_map preorder trees) at e in
        let s : Stands (preorder tree) body at (at + length (preorder tree)) = record { ends = refl; reads = e ∙ ap (λ z. preorder tree ++ z) (sym rest) } in
        ap (λ q. and_then q (trees_from settles body c (length trees) (suc rule))) (accept (settles rule) body tree at _ c fine narrow good.0 s)
        ∙ accept_each trees (suc rule) (at + length (preorder tree)) good.1 rest

    -- the check accepts exactly the lawful trees
    pub exact_body : (count : ℕ) → (body_verdict settles body c count ≡ Ok tt) ↔ Proves settles body c count
    exact_body count = (
      λ e. let f = found_each count 0 0 e in record { trees = f.trees; number = f.number; lawful = f.lawful; reads = f.reads },
      λ p. ap (λ k. body_verdict settles body c k) (sym p.number) ∙ accept_each p.trees 0 0 p.lawful p.reads,
    )

    pub answered_body : (count : ℕ) (r : Result (Unit {0}) TreeFault) → r ≡ body_verdict settles body c count → (r ≡ Ok tt) ↔ Proves settles body c count
    answered_body count r is = let x = exact_body count in (λ e. x.0 (sym is ∙ e), λ p. is ∙ x.1 p)
