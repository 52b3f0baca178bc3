-- Each step of a ringer keeps the rule, and tells it what its row of the table says.
use Rattle.std.proofs.Common.{◌≡◌, ◌≢◌, ◌⊎◌, ℕ, ◌+◌, ◌<◌, eqb, List, length, set, get_or, sym, refl, ◌∙◌, subst, inl, inr, ⊎_elim, arith, length-set, get_or-set_same, get_or-set_other}
use mathlib.Core.Option.{none, some}
use mathlib.Core.Logic.{dite}
use native.Mathlib.Decide.{ℕ_discrete}
use lib.ListN.{get_elem?}
use prog.Atomic.{either}
use Rattle.atomic_table.specs.Table.{step, keeps, Allows}
use Rattle.atomic_table.proofs.Lists.{exchanged}
use Rattle.door_bell.specs.declared.view.RingerView.{RingerView}
use Rattle.door_bell.specs.declared.view.BellView.{BellView}
use Rattle.door_bell.specs.declared.view.BellView.TheVariants.{Ringing}
use Rattle.door_bell.specs.Layout.{state_of, news_of, StateFits}
use Rattle.door_bell.specs.Change.{posting_news, quiet}
use Rattle.door_bell.specs.BellRule.{BellState, IsPosting, IsHeard, Running, BellRule}
use Rattle.door_bell.specs.Kinds.{Seated, news_posted, ring_tried}
use Rattle.door_bell.proofs.SeatLemmas.{same_number, same_ringer, sleeping_stays, sleeping_stood, begun_still, here_now, ringers_still, other_posts}
use Rattle.door_bell.proofs.StateLemmas.{running, fits_bounds, zero_awake, fits_rung, placed}

ringer_step : (count : ℕ) (s : BellState) (id p : ℕ) (v w : RingerView) (words : List ℕ) (r : Running count s) → get_elem? s.views id ≡ some (Ringing p v) → length words ≡ length s.words
    → StateFits r.sleeper.stage (state_of words) → ((q : ℕ) → q < r.sleeper.found → IsHeard words (set s.views id (Ringing p w)) q)
    → BellRule count record { words = words; homes = s.homes; views = set s.views id (Ringing p w) }
ringer_step count s id p v w words r at wide state heard = inr record {
  sleeper = r.sleeper;
  sleeper_seat = r.sleeper_seat;
  sleeper_at = sleeping_stays s.views id p v w at r.sleeper_seat r.sleeper r.sleeper_at;
  one_sleeper = λ j u e. r.one_sleeper j u (sleeping_stood s.views id p v w at j u e);
  begun = begun_still s.views id p v w at r.begun;
  ringers = ringers_still s.views id p v w at r.sleeper.ringers r.ringers;
  words = wide ∙ r.words;
  state = state;
  heard = heard;
  awake = r.awake;
  asleep = r.asleep;
}

same_ringing : (me : BellView) (p p' : ℕ) (v v' : RingerView) (f : RingerView → RingerView) → me ≡ Ringing p v → me ≡ Ringing p' v' → Ringing p (f v) ≡ Ringing p' (f v')
same_ringing me p p' v v' f is is' = let q : Ringing p v ≡ Ringing p' v' = sym is ∙ is' in λ i. Ringing (same_number p p' v v' q i) (f (same_ringer p p' v v' q i))

module _ (count slots id p : ℕ) (me : Seated) (v : RingerView) (is : me.0 ≡ Ringing p v) where
  pub allows_post : (i : ℕ) → i ≡ p + 1 → p < count → Allows (BellRule count) slots id me i (λ _. 1) (λ _. news_posted (step slots i 1 0 none) me 1)
  allows_post i word low s holds deep at0 _ = let at = placed s id me.0 (Ringing p v) at0 is in let r = running count s id (Ringing p v) (λ e. cc) at holds in
      let w : RingerView = posting_news v in
      let state : state_of (set s.words i 1) ≡ state_of s.words = get_or-set_other s.words i 0 1 0 (λ e. omega (arith, word, e)) in (
        Ringing p w,
        keeps,
        tt,
        ringer_step count s id p v w (set s.words i 1) r at (length-set s.words i 1) (subst (StateFits r.sleeper.stage) (sym state) r.state)
            (λ q l. dite (ℕ_discrete q p)
            (λ (e : q ≡ p). inr (inr (subst (IsPosting (set s.views id (Ringing p w))) (sym e) (id, w, here_now s.views id p v w at, refl))))
            (λ (ne : q ≢ p). ⊎_elim
            (λ (h : news_of s.words q ≡ 0). inl (get_or-set_other s.words i (q + 1) 1 0 (λ e. ne (omega (arith, word, e))) ∙ h))
            (λ (h : (state_of s.words ≡ 2) ⊎ IsPosting s.views q). inr (⊎_elim (λ (x : state_of s.words ≡ 2). inl (state ∙ x)) (λ (x : IsPosting s.views q). inr (other_posts s.views id p v w at q ne x)) h))
            (r.heard q l))),
        λ p' v' is' _ _. same_ringing me.0 p p' v v' posting_news is is',
      )

  pub allows_ring : Allows (BellRule count) slots id me 0 (λ n. either (eqb n 1) 2 n) (ring_tried (step slots 0 1 2 none) me)
  allows_ring s holds deep at0 _ = let at = placed s id me.0 (Ringing p v) at0 is in let r = running count s id (Ringing p v) (λ e. cc) at holds in
      let w : RingerView = quiet v in let x : ℕ = get_or s.words 0 0 in let wide = r.words in
      let set_now : (n : ℕ) → state_of (set s.words 0 n) ≡ n = λ n. get_or-set_same s.words 0 n 0 (omega (arith, wide)) in
      let news_now : (n q : ℕ) → news_of (set s.words 0 n) q ≡ news_of s.words q = λ n q. get_or-set_other s.words 0 (q + 1) n 0 (λ e. omega (arith, e)) in (
        Ringing p w,
        keeps,
        tt,
        exchanged x 1 2 (λ (n : ℕ). BellRule count record { words = set s.words 0 n; homes = s.homes; views = set s.views id (Ringing p w) })
            (λ (hit : x ≡ 1). ringer_step count s id p v w (set s.words 0 2) r at (length-set s.words 0 2)
            (subst (StateFits r.sleeper.stage) (sym (set_now 2)) (fits_rung r.sleeper.stage (subst (StateFits r.sleeper.stage) hit r.state)))
            (λ q l. inr (inl (set_now 2))))
            (λ (miss : x ≢ 1). ringer_step count s id p v w (set s.words 0 x) r at (length-set s.words 0 x)
            (subst (StateFits r.sleeper.stage) (sym (set_now x)) r.state)
            (λ q l. dite (ℕ_discrete x 2)
            (λ (two : x ≡ 2). inr (inl (set_now x ∙ two)))
            (λ (other : x ≢ 2). let low = fits_bounds r.sleeper.stage x r.state in let none_ : x ≡ 0 = omega (arith, low, miss, other) in
            let found = r.awake (zero_awake r.sleeper.stage (subst (StateFits r.sleeper.stage) none_ r.state)) in absurd (omega (arith, found, l))))),
        λ p' v' is' _ _ _. same_ringing me.0 p p' v v' quiet is is',
      )
