-- What a change of one seat's view keeps of the ringers' seats.
use Rattle.std.proofs.Common.{◌≡◌, ◌≢◌, ◌⊎◌, ℕ, zero, suc, ◌+◌, ◌<◌, List, [], ◌∷◌, ◌++◌, length, set, sym, refl, ap, ◌∙◌, subst, inl, inr, ⊎_elim, arith}
use mathlib.Core.Option.{some, some-injective, some-ne-none}
use mathlib.Core.Logic.{dite}
use native.Mathlib.Decide.{ℕ_discrete}
use lib.ListN.{get_elem?}
use Rattle.atomic_table.proofs.Lists.{at_set, set_here, set_else, at_longer, at_last}
use Rattle.door_bell.specs.declared.view.SleeperView.{SleeperView}
use Rattle.door_bell.specs.declared.view.RingerView.{RingerView}
use Rattle.door_bell.specs.declared.view.BellView.{BellView}
use Rattle.door_bell.specs.declared.view.BellView.TheVariants.{Opening, Sleeping, Ringing}
use Rattle.door_bell.specs.BellRule.{IsPosting, RingersHold}

module _ {A : Type 0} where
  -- what is found is within
  pub at_short : (l : List A) (i : ℕ) (a : A) → get_elem? l i ≡ some a → i < length l
  at_short [] i a e = absurd (some-ne-none a (sym e))
  at_short (x ∷ xs) zero a e = omega arith
  at_short (x ∷ xs) (suc i) a e = let h = at_short xs i a e in omega (arith, h)

  pub at_end : (l : List A) (a b : A) (j : ℕ) → get_elem? (l ++ a ∷ []) j ≡ some b → (get_elem? l j ≡ some b) ⊎ ((j ≡ length l) × (a ≡ b))
  at_end [] a b zero e = inr (refl, some-injective a b e)
  at_end [] a b (suc j) e = absurd (some-ne-none b (sym e))
  at_end (x ∷ xs) a b zero e = inl e
  at_end (x ∷ xs) a b (suc j) e = ⊎_elim (λ (h : get_elem? xs j ≡ some b). inl h) (λ (h : (j ≡ length xs) × (a ≡ b)). inr (ap suc h.0, h.1)) (at_end xs a b j e)

  -- two values at one place are one
  pub at_same : (l : List A) (i : ℕ) (a b : A) → get_elem? l i ≡ some a → get_elem? l i ≡ some b → a ≡ b
  at_same l i a b e f = some-injective a b (sym e ∙ f)

sleeping_not_ringing : (v : SleeperView) (p : ℕ) (w : RingerView) → Sleeping v ≡ Ringing p w → ⊥
sleeping_not_ringing v p w e = cc

pub same_sleeper : (v w : SleeperView) → Sleeping v ≡ Sleeping w → v ≡ w
same_sleeper v w e = cc

pub same_number : (p q : ℕ) (v w : RingerView) → Ringing p v ≡ Ringing q w → p ≡ q
same_number p q v w e = cc

pub same_ringer : (p q : ℕ) (v w : RingerView) → Ringing p v ≡ Ringing q w → v ≡ w
same_ringer p q v w e = cc

-- The sleeper's seat changes
module _ (views : List BellView) (id : ℕ) (v w : SleeperView) (at : get_elem? views id ≡ some (Sleeping v)) where
  abbrev after : List BellView
  after = set views id (Sleeping w)

  pub ringing_stays : (j p : ℕ) (r : RingerView) → get_elem? views j ≡ some (Ringing p r) → get_elem? (set views id (Sleeping w)) j ≡ some (Ringing p r)
  ringing_stays j p r e = set_else views id j (Sleeping w) (λ (h : j ≡ id). sleeping_not_ringing v p r (at_same views id (Sleeping v) (Ringing p r) at (subst (λ (k : ℕ). get_elem? views k ≡ some (Ringing p r)) h e))) ∙ e

  pub ringing_stood : (j p : ℕ) (r : RingerView) → get_elem? (set views id (Sleeping w)) j ≡ some (Ringing p r) → get_elem? views j ≡ some (Ringing p r)
  ringing_stood j p r e = ⊎_elim
      (λ (h : (j ≡ id) × (Sleeping w ≡ Ringing p r)). absurd (sleeping_not_ringing w p r h.1))
      (λ (h : (j ≢ id) × (get_elem? views j ≡ some (Ringing p r))). h.1)
      (at_set views id j (Sleeping w) (Ringing p r) e)

  pub posting_stays : (p : ℕ) → IsPosting views p → IsPosting (set views id (Sleeping w)) p
  posting_stays p h = (h.0, h.1, ringing_stays h.0 p h.1 h.2, h.3)

  pub ringers_stay : (n : ℕ) → RingersHold n views → RingersHold n (set views id (Sleeping w))
  ringers_stay n h = record {
    each = λ p low. let s = h.each p low in (s.0, s.1, ringing_stays s.0 p s.1 s.2);
    in_range = λ j p r e. h.in_range j p r (ringing_stood j p r e);
    one_seat = λ i j p a b e f. h.one_seat i j p a b (ringing_stood i p a e) (ringing_stood j p b f);
  }

  pub sleeper_alone : ((j : ℕ) (u : SleeperView) → get_elem? views j ≡ some (Sleeping u) → j ≡ id) → (j : ℕ) (u : SleeperView) → get_elem? (set views id (Sleeping w)) j ≡ some (Sleeping u) → j ≡ id
  sleeper_alone alone j u e = ⊎_elim
      (λ (h : (j ≡ id) × (Sleeping w ≡ Sleeping u)). h.0)
      (λ (h : (j ≢ id) × (get_elem? views j ≡ some (Sleeping u))). alone j u h.1)
      (at_set views id j (Sleeping w) (Sleeping u) e)

  pub still_begun : ((j : ℕ) → get_elem? views j ≡ some Opening → ⊥) → (j : ℕ) → get_elem? (set views id (Sleeping w)) j ≡ some Opening → ⊥
  still_begun begun j e = ⊎_elim
      (λ (h : (j ≡ id) × (Sleeping w ≡ Opening)). let x : Sleeping w ≡ Opening = h.1 in cc)
      (λ (h : (j ≢ id) × (get_elem? views j ≡ some Opening)). begun j h.1)
      (at_set views id j (Sleeping w) Opening e)

-- A ringer's seat changes
module _ (views : List BellView) (id p : ℕ) (v w : RingerView) (at : get_elem? views id ≡ some (Ringing p v)) where
  pub sleeping_stays : (j : ℕ) (u : SleeperView) → get_elem? views j ≡ some (Sleeping u) → get_elem? (set views id (Ringing p w)) j ≡ some (Sleeping u)
  sleeping_stays j u e = set_else views id j (Ringing p w) (λ (h : j ≡ id). sleeping_not_ringing u p v (at_same views id (Sleeping u) (Ringing p v) (subst (λ (k : ℕ). get_elem? views k ≡ some (Sleeping u)) h e) at)) ∙ e

  pub sleeping_stood : (j : ℕ) (u : SleeperView) → get_elem? (set views id (Ringing p w)) j ≡ some (Sleeping u) → get_elem? views j ≡ some (Sleeping u)
  sleeping_stood j u e = ⊎_elim
      (λ (h : (j ≡ id) × (Ringing p w ≡ Sleeping u)). absurd (sleeping_not_ringing u p w (sym h.1)))
      (λ (h : (j ≢ id) × (get_elem? views j ≡ some (Sleeping u))). h.1)
      (at_set views id j (Ringing p w) (Sleeping u) e)

  pub begun_still : ((j : ℕ) → get_elem? views j ≡ some Opening → ⊥) → (j : ℕ) → get_elem? (set views id (Ringing p w)) j ≡ some Opening → ⊥
  begun_still begun j e = ⊎_elim
      (λ (h : (j ≡ id) × (Ringing p w ≡ Opening)). let x : Ringing p w ≡ Opening = h.1 in cc)
      (λ (h : (j ≢ id) × (get_elem? views j ≡ some Opening)). begun j h.1)
      (at_set views id j (Ringing p w) Opening e)

  pub here_now : get_elem? (set views id (Ringing p w)) id ≡ some (Ringing p w)
  here_now = set_here views id (Ringing p w) (at_short views id (Ringing p v) at)

  -- the seats with a ringer's number are those that they were
  ringer_before : (j q : ℕ) (u : RingerView) → get_elem? (set views id (Ringing p w)) j ≡ some (Ringing q u) → (u' : RingerView) × (get_elem? views j ≡ some (Ringing q u'))
  ringer_before j q u e = ⊎_elim
      (λ (h : (j ≡ id) × (Ringing p w ≡ Ringing q u)). (v, subst (λ (k : ℕ × ℕ). get_elem? views k.0 ≡ some (Ringing k.1 v)) (λ i. (sym h.0 i, same_number p q w u h.1 i)) at))
      (λ (h : (j ≢ id) × (get_elem? views j ≡ some (Ringing q u))). (u, h.1))
      (at_set views id j (Ringing p w) (Ringing q u) e)

  ringer_after : (j q : ℕ) (u : RingerView) → get_elem? views j ≡ some (Ringing q u) → (u' : RingerView) × (get_elem? (set views id (Ringing p w)) j ≡ some (Ringing q u'))
  ringer_after j q u e = dite (ℕ_discrete j id)
      (λ (h : j ≡ id). let n : p ≡ q = same_number p q v u (at_same views id (Ringing p v) (Ringing q u) at (subst (λ (k : ℕ). get_elem? views k ≡ some (Ringing q u)) h e)) in
      (w, subst (λ (k : ℕ × ℕ). get_elem? (set views id (Ringing p w)) k.0 ≡ some (Ringing k.1 w)) (λ i. (sym h i, n i)) here_now))
      (λ (h : j ≢ id). (u, set_else views id j (Ringing p w) h ∙ e))

  pub ringers_still : (n : ℕ) → RingersHold n views → RingersHold n (set views id (Ringing p w))
  ringers_still n h = record {
    each = λ q low. let s = h.each q low in let t = ringer_after s.0 q s.1 s.2 in (s.0, t.0, t.1);
    in_range = λ j q u e. let b = ringer_before j q u e in h.in_range j q b.0 b.1;
    one_seat = λ i j q a b e f. let x = ringer_before i q a e in let y = ringer_before j q b f in h.one_seat i j q x.0 y.0 x.1 y.1;
  }

  -- another ringer that is posting still is
  pub other_posts : (q : ℕ) → q ≢ p → IsPosting views q → IsPosting (set views id (Ringing p w)) q
  other_posts q ne h = (
    h.0,
    h.1,
    set_else views id h.0 (Ringing p w) (λ (e : h.0 ≡ id). ne (sym (same_number p q v h.1 (at_same views id (Ringing p v) (Ringing q h.1) at (subst (λ (k : ℕ). get_elem? views k ≡ some (Ringing q h.1)) e h.2))))) ∙ h.2,
    h.3,
  )

-- A ringer parts
pub ringers_part : (views : List BellView) (n : ℕ) (r : RingerView) → RingersHold n views → RingersHold (n + 1) (views ++ Ringing n r ∷ [])
ringers_part views n r h = record {
  each = λ p low. dite (ℕ_discrete p n)
      (λ (e : p ≡ n). (length views, r, subst (λ (k : ℕ). get_elem? (views ++ Ringing n r ∷ []) (length views) ≡ some (Ringing k r)) (sym e) (at_last views (Ringing n r) (length views) refl)))
      (λ (e : p ≢ n). let s = h.each p (omega (arith, low, e)) in (s.0, s.1, at_longer views (Ringing n r ∷ []) s.0 (Ringing p s.1) s.2));
  in_range = λ j p u e. ⊎_elim
      (λ (a : get_elem? views j ≡ some (Ringing p u)). let l = h.in_range j p u a in omega (arith, l))
      (λ (a : (j ≡ length views) × (Ringing n r ≡ Ringing p u)). let m = same_number n p r u a.1 in omega (arith, m))
      (at_end views (Ringing n r) (Ringing p u) j e);
  one_seat = λ i j p a b e f. ⊎_elim
      (λ (x : get_elem? views i ≡ some (Ringing p a)). ⊎_elim
      (λ (y : get_elem? views j ≡ some (Ringing p b)). h.one_seat i j p a b x y)
      (λ (y : (j ≡ length views) × (Ringing n r ≡ Ringing p b)). let l = h.in_range i p a x in let m = same_number n p r b y.1 in absurd (omega (arith, l, m)))
      (at_end views (Ringing n r) (Ringing p b) j f))
      (λ (x : (i ≡ length views) × (Ringing n r ≡ Ringing p a)). ⊎_elim
      (λ (y : get_elem? views j ≡ some (Ringing p b)). let l = h.in_range j p b y in let m = same_number n p r a x.1 in absurd (omega (arith, l, m)))
      (λ (y : (j ≡ length views) × (Ringing n r ≡ Ringing p b)). x.0 ∙ sym y.0)
      (at_end views (Ringing n r) (Ringing p b) j f))
      (at_end views (Ringing n r) (Ringing p a) i e);
}
