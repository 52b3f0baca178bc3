-- Each step of a sleeper keeps the rule, and tells it what its row of the table says.
use Rattle.std.proofs.Common.{◌≡◌, ◌≢◌, ◌⊎◌, ℕ, ◌+◌, ◌<◌, Bool, cond, List, length, set, get_or, sym, refl, ap, ◌∙◌, subst, inl, inr, ⊎_elim, arith, length-set, get_or-set_same, get_or-set_other, eq-eqb, ne_eqb}
use mathlib.Core.Option.{none, some}
use mathlib.Core.Logic.{dite}
use native.Mathlib.Decide.{ℕ_discrete}
use lib.ListN.{get_elem?}
use lib.Seq.{set-get_or}
use Rattle.atomic_table.specs.Table.{step, keeps, Allows}
use Rattle.atomic_table.proofs.Lists.{set_here}
use Rattle.door_bell.specs.declared.view.Stage.{Stage}
use Rattle.door_bell.specs.declared.view.Stage.TheVariants.{Awake, Arming, Asleep, GivingUp, Rung}
use Rattle.door_bell.specs.declared.view.SleeperView.{SleeperView}
use Rattle.door_bell.specs.declared.view.BellView.{BellView}
use Rattle.door_bell.specs.declared.view.BellView.TheVariants.{Sleeping}
use Rattle.door_bell.specs.Layout.{state_of, news_of, StateFits}
use Rattle.door_bell.specs.Change.{clearing, arming, stage_at, finding, giving_up, hearing, ringing, looking, waking}
use Rattle.door_bell.specs.BellRule.{BellState, IsPosting, IsHeard, RingersHold, Running, BellRule, AsleepIsRung}
use Rattle.door_bell.specs.Kinds.{Seated, news_cleared, wants_stored, news_loaded, state_loaded, awake_stored}
use Rattle.door_bell.proofs.SeatLemmas.{at_short, at_same, same_sleeper, posting_stays, ringers_stay, sleeper_alone, still_begun}
use Rattle.door_bell.proofs.StateLemmas.{running, placed}

pub record MySleeper (count : ℕ) (s : BellState) (id : ℕ) (v : SleeperView) : Type 0 where
  pub rule : Running count s
  pub same : rule.sleeper ≡ v
  pub seat : rule.sleeper_seat ≡ id

pub my_sleeper : (count : ℕ) (s : BellState) (id : ℕ) (v : SleeperView) → BellRule count s → get_elem? s.views id ≡ some (Sleeping v) → MySleeper count s id v
my_sleeper count s id v holds at = let r = running count s id (Sleeping v) (λ e. cc) at holds in let seat : id ≡ r.sleeper_seat = r.one_sleeper id v at in record {
  rule = r;
  same = same_sleeper r.sleeper v (at_same s.views id (Sleeping r.sleeper) (Sleeping v) (subst (λ (k : ℕ). get_elem? s.views k ≡ some (Sleeping r.sleeper)) (sym seat) r.sleeper_at) at);
  seat = sym seat;
}

sleeper_step : (count : ℕ) (s : BellState) (id : ℕ) (v w : SleeperView) (words : List ℕ) → get_elem? s.views id ≡ some (Sleeping v) → MySleeper count s id v → w.ringers ≡ v.ringers → length words ≡ length s.words
    → StateFits w.stage (state_of words) → ((p : ℕ) → p < w.found → IsHeard words s.views p) → (w.stage ≡ Awake → w.found ≡ 0) → (w.stage ≡ Asleep → w.found ≡ w.ringers)
    → BellRule count record { words = words; homes = s.homes; views = set s.views id (Sleeping w) }
sleeper_step count s id v w words at m same wide state heard awake asleep = let r = m.rule in inr record {
  sleeper = w;
  sleeper_seat = id;
  sleeper_at = set_here s.views id (Sleeping w) (at_short s.views id (Sleeping v) at);
  one_sleeper = sleeper_alone s.views id v w at (λ j u e. r.one_sleeper j u e ∙ m.seat);
  begun = still_begun s.views id v w at r.begun;
  ringers = ringers_stay s.views id v w at w.ringers (subst (λ (n : ℕ). RingersHold n s.views) (ap (λ (x : SleeperView). x.ringers) m.same ∙ sym same) r.ringers);
  words = wide ∙ r.words;
  state = state;
  heard = λ p low. ⊎_elim (λ (h : news_of words p ≡ 0). inl h) (λ (h : (state_of words ≡ 2) ⊎ IsPosting s.views p). inr (⊎_elim (λ (x : state_of words ≡ 2). inl x) (λ (x : IsPosting s.views p). inr (posting_stays s.views id v w at p x)) h)) (heard p low);
  awake = awake;
  asleep = asleep;
}

same_view : (me : BellView) (v v' : SleeperView) (f : SleeperView → SleeperView) → me ≡ Sleeping v → me ≡ Sleeping v' → Sleeping (f v) ≡ Sleeping (f v')
same_view me v v' f is is' = ap (λ (x : SleeperView). Sleeping (f x)) (same_sleeper v v' (sym is ∙ is'))

-- a load leaves the words
pub load_keeps : (count : ℕ) (s : BellState) (id i : ℕ) (w : BellView) → BellRule count record { words = s.words; homes = s.homes; views = set s.views id w } → BellRule count record { words = set s.words i (get_or s.words i 0); homes = s.homes; views = set s.views id w }
load_keeps count s id i w r = subst (λ (ws : List ℕ). BellRule count record { words = ws; homes = s.homes; views = set s.views id w }) (sym (set-get_or s.words i 0)) r

module _ (count slots id : ℕ) (me : Seated) (v : SleeperView) (is : me.0 ≡ Sleeping v) where
  pub allows_clear : (i p : ℕ) → i ≡ p + 1 → v.stage ≡ Awake → Allows (BellRule count) slots id me i (λ _. 0) (λ _. news_cleared (step slots i 0 0 none) me 0)
  allows_clear i p here awake s holds deep at0 _ = let at = placed s id me.0 (Sleeping v) at0 is in let m = my_sleeper count s id v holds at in
      let none_found : v.found ≡ 0 = ap (λ (x : SleeperView). x.found) (sym m.same) ∙ m.rule.awake (ap (λ (x : SleeperView). x.stage) m.same ∙ awake) in (
        Sleeping (clearing p v),
        keeps,
        tt,
        sleeper_step count s id v (clearing p v) (set s.words i 0) at m refl (length-set s.words i 0)
            (subst (StateFits v.stage) (sym (get_or-set_other s.words i 0 0 0 (λ e. omega (arith, here, e)))) (subst (λ (x : SleeperView). StateFits x.stage (state_of s.words)) m.same m.rule.state))
            (λ q l. absurd (omega (arith, none_found, l)))
            (λ _. none_found)
            (λ e. let x : Awake ≡ Asleep = sym awake ∙ e in cc),
        λ p' v' is' _ word _. let num : p ≡ p' = omega (arith, word, here) in (λ i. Sleeping (clearing (num i) (same_sleeper v v' (sym is ∙ is') i))),
      )

  pub allows_want : v.stage ≡ Awake → Allows (BellRule count) slots id me 0 (λ _. 1) (λ _. wants_stored (step slots 0 1 0 none) me 1)
  allows_want awake s holds deep at0 _ = let at = placed s id me.0 (Sleeping v) at0 is in let m = my_sleeper count s id v holds at in
      let wide = m.rule.words in (
        Sleeping (arming v),
        keeps,
        tt,
        sleeper_step count s id v (arming v) (set s.words 0 1) at m refl (length-set s.words 0 1)
            (inl (get_or-set_same s.words 0 1 0 (omega (arith, wide))))
            (λ q l. absurd (omega (arith, l)))
            (λ e. let x : Arming ≡ Awake = e in cc)
            (λ e. let x : Arming ≡ Asleep = e in cc),
        λ v' is' _ _ _. same_view me.0 v v' arming is is',
      )

  pub allows_wake : Allows (BellRule count) slots id me 0 (λ _. 0) (λ _. awake_stored (step slots 0 0 0 none) me 0)
  allows_wake s holds deep at0 _ = let at = placed s id me.0 (Sleeping v) at0 is in let m = my_sleeper count s id v holds at in
      let wide = m.rule.words in (
        Sleeping (waking v),
        keeps,
        tt,
        sleeper_step count s id v (waking v) (set s.words 0 0) at m refl (length-set s.words 0 0)
            (get_or-set_same s.words 0 0 0 (omega (arith, wide)))
            (λ q l. absurd (omega (arith, l)))
            (λ e. refl)
            (λ e. let x : Awake ≡ Asleep = e in cc),
        λ v' is' _ _ _. same_view me.0 v v' waking is is',
      )

  -- the rule of the state, and of what was found, in the sleeper's own view
  my_state : (s : BellState) → MySleeper count s id v → StateFits v.stage (state_of s.words)
  my_state s m = subst (λ (x : SleeperView). StateFits x.stage (state_of s.words)) m.same m.rule.state

  my_heard : (s : BellState) → MySleeper count s id v → (p : ℕ) → p < v.found → IsHeard s.words s.views p
  my_heard s m p low = m.rule.heard p (subst (λ (x : SleeperView). p < x.found) (sym m.same) low)

  pub allows_look : v.stage ≡ Asleep → Allows (BellRule count) slots id me 0 (λ n. n) (state_loaded (step slots 0 0 0 none) me)
  allows_look asleep s holds deep at0 _ = let at = placed s id me.0 (Sleeping v) at0 is in let m = my_sleeper count s id v holds at in let r : ℕ = get_or s.words 0 0 in (
    Sleeping (looking r v),
    keeps,
    tt,
    load_keeps count s id 0 (Sleeping (looking r v)) (dite (ℕ_discrete r 2)
        (λ (e : r ≡ 2). subst (λ (b : Bool). BellRule count record { words = s.words; homes = s.homes; views = set s.views id (Sleeping (cond b (ringing v) v)) }) (sym (eq-eqb r 2 e))
        (sleeper_step count s id v (ringing v) s.words at m refl refl (inr e) (my_heard s m) (λ q. let x : Rung ≡ Awake = q in cc) (λ q. let x : Rung ≡ Asleep = q in cc)))
        (λ (e : r ≢ 2). subst (λ (b : Bool). BellRule count record { words = s.words; homes = s.homes; views = set s.views id (Sleeping (cond b (ringing v) v)) }) (sym (ne_eqb r 2 e))
        (sleeper_step count s id v v s.words at m refl refl (my_state s m) (my_heard s m) (λ q. let x : Asleep ≡ Awake = sym asleep ∙ q in cc)
        (λ q. ap (λ (x : SleeperView). x.found) (sym m.same) ∙ (m.rule.asleep (ap (λ (x : SleeperView). x.stage) m.same ∙ q) ∙ ap (λ (x : SleeperView). x.ringers) m.same))))),
    λ v' is' _ _. same_view me.0 v v' (looking r) is is',
  )

  stage_cases : (n k : ℕ) (P : Stage → Type 0) → (k ≡ n → P Asleep) → (k ≢ n → P Arming) → P (stage_at n k)
  stage_cases n k P yes_ no_ = dite (ℕ_discrete k n)
      (λ (e : k ≡ n). subst (λ (b : Bool). P (cond b Asleep Arming)) (sym (eq-eqb k n e)) (yes_ e))
      (λ (e : k ≢ n). subst (λ (b : Bool). P (cond b Asleep Arming)) (sym (ne_eqb k n e)) (no_ e))

  pub allows_hear : (i : ℕ) → v.stage ≡ Arming → i ≡ v.found + 1 → Allows (BellRule count) slots id me i (λ n. n) (news_loaded (step slots i 0 0 none) me)
  allows_hear i is_arming word s holds deep at0 _ = let at = placed s id me.0 (Sleeping v) at0 is in let m = my_sleeper count s id v holds at in let r : ℕ = get_or s.words i 0 in
      let state : (state_of s.words ≡ 1) ⊎ (state_of s.words ≡ 2) = subst (λ (x : Stage). StateFits x (state_of s.words)) is_arming (my_state s m) in (
        Sleeping (hearing r v),
        keeps,
        tt,
        load_keeps count s id i (Sleeping (hearing r v)) (dite (ℕ_discrete r 0)
            (λ (e : r ≡ 0). subst (λ (b : Bool). BellRule count record { words = s.words; homes = s.homes; views = set s.views id (Sleeping (cond b (finding (v.found + 1) v) (giving_up v))) }) (sym (eq-eqb r 0 e))
            (sleeper_step count s id v (finding (v.found + 1) v) s.words at m refl refl
            (stage_cases v.ringers (v.found + 1) (λ (x : Stage). StateFits x (state_of s.words)) (λ _. state) (λ _. state))
            (λ p low. dite (ℕ_discrete p v.found)
            (λ (h : p ≡ v.found). inl (ap (λ (k : ℕ). get_or s.words k 0) (let q : p + 1 ≡ i = omega (arith, h, word) in q) ∙ e))
            (λ (h : p ≢ v.found). my_heard s m p (omega (arith, low, h))))
            (stage_cases v.ringers (v.found + 1) (λ (x : Stage). x ≡ Awake → v.found + 1 ≡ 0) (λ _ q. let x : Asleep ≡ Awake = q in cc) (λ _ q. let x : Arming ≡ Awake = q in cc))
            (stage_cases v.ringers (v.found + 1) (λ (x : Stage). x ≡ Asleep → v.found + 1 ≡ v.ringers) (λ h _. h) (λ _ q. let x : Arming ≡ Asleep = q in cc))))
            (λ (e : r ≢ 0). subst (λ (b : Bool). BellRule count record { words = s.words; homes = s.homes; views = set s.views id (Sleeping (cond b (finding (v.found + 1) v) (giving_up v))) }) (sym (ne_eqb r 0 e))
            (sleeper_step count s id v (giving_up v) s.words at m refl refl state (my_heard s m) (λ q. let x : GivingUp ≡ Awake = q in cc) (λ q. let x : GivingUp ≡ Asleep = q in cc)))),
        λ v' is' _ _. same_view me.0 v v' (hearing r) is is',
      )

-- What the rule says of a sleeper that is asleep

pub asleep-rung : AsleepIsRung
asleep-rung count s seat p v holds at asleep low news = let m = my_sleeper count s seat v holds at in
    let found : m.rule.sleeper.found ≡ v.ringers = m.rule.asleep (ap (λ (x : SleeperView). x.stage) m.same ∙ asleep) ∙ ap (λ (x : SleeperView). x.ringers) m.same in
    ⊎_elim (λ (h : news_of s.words p ≡ 0). absurd (news h)) (λ (h : (state_of s.words ≡ 2) ⊎ IsPosting s.views p). h) (m.rule.heard p (omega (arith, found, low)))
