-- A new table keeps the rule, and so do its first load and the parting of each ringer.
use Rattle.std.proofs.Common.{◌≡◌, ℕ, List, [], ◌∷◌, length, set, get_or, sym, refl, ap, ◌∙◌, subst, inl, inr, ⊎_elim, arith}
use mathlib.Core.Option.{none, some}
use lib.ListN.{get_elem?}
use Rattle.atomic_table.specs.Table.{step, keeps, Allows, Splits, opening}
use Rattle.atomic_table.proofs.Lists.{set_here, at_longer}
use Rattle.door_bell.specs.declared.view.Stage.TheVariants.{Awake, Asleep}
use Rattle.door_bell.specs.declared.view.SleeperView.{SleeperView}
use Rattle.door_bell.specs.declared.view.BellView.{BellView}
use Rattle.door_bell.specs.declared.view.BellView.TheVariants.{Opening, Sleeping, Ringing}
use Rattle.door_bell.specs.Layout.{word_count, state_of, StateFits}
use Rattle.door_bell.specs.Change.{new_sleeper, new_ringer, parting}
use Rattle.door_bell.specs.BellRule.{RingersHold, BellRule}
use Rattle.door_bell.specs.Kinds.{Seated, begun}
use Rattle.door_bell.proofs.SeatLemmas.{at_short, at_end, ringers_stay, sleeper_alone, still_begun, ringers_part}
use Rattle.door_bell.proofs.StateLemmas.{only}
use Rattle.door_bell.proofs.SleeperSteps.{my_sleeper, load_keeps}

pub opens : (count : ℕ) (words : List ℕ) → length words ≡ word_count count → ((i : ℕ) → get_or words i 0 ≡ 0) → BellRule count (opening words [] Opening)
opens count words wide zeros = inl record { views = refl; words = wide; zeros = zeros }

pub allows_begin : (count slots id : ℕ) (me : Seated) → me.0 ≡ Opening → Allows (BellRule count) slots id me 0 (λ n. n) (begun (step slots 0 0 0 none) me)
allows_begin count slots id me is s (inr r) deep at _ = absurd (r.begun id (at ∙ ap some is))
allows_begin count slots id me is s (inl f) deep at _ = let here = only Opening me.0 id (subst (λ (vs : List BellView). get_elem? vs id ≡ some me.0) f.views at) in let w : SleeperView = new_sleeper 0 in
    let views : set s.views id (Sleeping w) ≡ Sleeping w ∷ [] = ap (λ (q : List BellView × ℕ). set q.0 q.1 (Sleeping w)) (λ i. (f.views i, here.0 i)) in (
      Sleeping w,
      keeps,
      tt,
      load_keeps count s id 0 (Sleeping w) (subst (λ (vs : List BellView). BellRule count record { words = s.words; homes = s.homes; views = vs }) (sym views) (inr record {
        sleeper = w;
        sleeper_seat = 0;
        sleeper_at = refl;
        one_sleeper = λ j u e. (only (Sleeping w) (Sleeping u) j e).0;
        begun = λ j e. let x : Sleeping w ≡ Opening = (only (Sleeping w) Opening j e).1 in cc;
        ringers = record {
          each = λ p low. absurd (omega (arith, low));
          in_range = λ j p u e. let x : Sleeping w ≡ Ringing p u = (only (Sleeping w) (Ringing p u) j e).1 in cc;
          one_seat = λ i j p a b e g. (only (Sleeping w) (Ringing p a) i e).0 ∙ sym (only (Sleeping w) (Ringing p b) j g).0;
        };
        words = f.words;
        state = f.zeros 0;
        heard = λ p low. absurd (omega (arith, low));
        awake = λ _. refl;
        asleep = λ e. let x : Awake ≡ Asleep = e in cc;
      })),
      λ _. refl,
    )

pub splits_ringer : (count id : ℕ) (v : SleeperView) → v.stage ≡ Awake → Splits (BellRule count) id (Sleeping v) (Sleeping (parting v)) (Ringing v.ringers new_ringer)
splits_ringer count id v awake s holds at = let m = my_sleeper count s id v holds at in let r = m.rule in let w : SleeperView = parting v in let n : ℕ = v.ringers in
    let vs : List BellView = set s.views id (Sleeping w) in let none_found : v.found ≡ 0 = ap (λ (x : SleeperView). x.found) (sym m.same) ∙ r.awake (ap (λ (x : SleeperView). x.stage) m.same ∙ awake) in inr record {
      sleeper = w;
      sleeper_seat = id;
      sleeper_at = at_longer vs (Ringing n new_ringer ∷ []) id (Sleeping w) (set_here s.views id (Sleeping w) (at_short s.views id (Sleeping v) at));
      one_sleeper = λ j u e. ⊎_elim
          (λ (h : get_elem? vs j ≡ some (Sleeping u)). sleeper_alone s.views id v w at (λ k x q. r.one_sleeper k x q ∙ m.seat) j u h)
          (λ (h : (j ≡ length vs) × (Ringing n new_ringer ≡ Sleeping u)). let x : Ringing n new_ringer ≡ Sleeping u = h.1 in cc)
          (at_end vs (Ringing n new_ringer) (Sleeping u) j e);
      begun = λ j e. ⊎_elim
          (λ (h : get_elem? vs j ≡ some Opening). still_begun s.views id v w at r.begun j h)
          (λ (h : (j ≡ length vs) × (Ringing n new_ringer ≡ Opening)). let x : Ringing n new_ringer ≡ Opening = h.1 in cc)
          (at_end vs (Ringing n new_ringer) Opening j e);
      ringers = ringers_part vs n new_ringer (ringers_stay s.views id v w at n (subst (λ (k : ℕ). RingersHold k s.views) (ap (λ (x : SleeperView). x.ringers) m.same) r.ringers));
      words = r.words;
      state = subst (λ (x : SleeperView). StateFits x.stage (state_of s.words)) m.same r.state;
      heard = λ p low. absurd (omega (arith, none_found, low));
      awake = λ _. none_found;
      asleep = λ e. let x : Awake ≡ Asleep = sym awake ∙ e in cc;
    }
