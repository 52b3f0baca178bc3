-- What is known of the receiver's end of a channel is kept by every change, and so by every list of call_changes.
use Rattle.std.proofs.Common.{◌≡◌, ℕ, ◌+◌, ◌-◌, ◌-◌, Bool, true, false, cond, List, [], ◌∷◌, ◌++◌, map, drop, length, Option, Some, None, refl, sym, ap, ◌∙◌, subst, inl, inr}
use Rattle.std.specs.Prelude.{◌==◌, find}
use Rattle.std.proofs.lemmas.List.{append_assoc}
use Rattle.std.proofs.lemmas.Bool.{eqb-true, eqb-false, eq-eqb, ne_eqb, cases_Bool, cond_both}
use Rattle.board_model.proofs.Hearing.{Heard, heard, Lists, more, HeardAt, accepts, NoAccept, owed_replies, NoneHears, Hearing, unheard, refused, heard_at, Moves, stays, comes, passes, loses, gives, turns, shuts, ends, heard_moves, nothing}
use Rattle.board_model.proofs.HearingChanges.{Fits, Happens, happens}
use Rattle.board_model.proofs.ChannelWords.{Way, taken_by, through, dropped_by}
use Rattle.board_model.specs.Change.{buffers_back, frames_shown, frame_taken, Change, end_announced, reply_owed, owed_put, names_known, buffers_used, also_owed, first_put, changed, changed_all}
use Rattle.board_model.specs.Lists.{changed_first}
use Rattle.board_model.specs.State.{Reply, replying, Peer, DomainState, endpoint_of, peer_at, is_numbered, Announcement}
use Rattle.mc_base.specs.Reading.{reading}

-- ---- replies

abbrev Silent : ℕ → Option Peer → Type 0
Silent n p = NoAccept n (owed_replies p)

abbrev Mute : ℕ → List Reply → Type 0
Mute n rs = NoAccept n (map replying rs)

no_fewer : (n : ℕ) (fs : List Reply) → Mute n fs → Mute n (drop 1 fs)
no_fewer n [] none = tt
no_fewer n (f ∷ fs) none = none.1

no_more : (n : ℕ) (fs : List Reply) (f : Reply) → accepts n (reading (replying f)) ≡ false → Mute n fs → Mute n (fs ++ f ∷ [])
no_more n [] f other none = (other, tt)
no_more n (g ∷ gs) f other none = (none.0, no_more n gs f other none.1)

-- a change at one peer that keeps its replies silent
peers_silent : (n p o : ℕ) (f : Peer → Peer) → ((x : Peer) → (f x).number ≡ x.number) → ((x : Peer) → (p == o) ≡ true → Mute n x.replies → Mute n (f x).replies) → (ps : List Peer) →
    Silent n (find (is_numbered o) ps) → Silent n (find (is_numbered o) (changed_first (is_numbered p) f ps))
peers_silent n p o f same keep [] none = none
peers_silent n p o f same keep (x ∷ xs) none =
    elim (cases_Bool (x.number == p)) [
      | inl here ↦ elim (cases_Bool (x.number == o)) [
        | inl it ↦ let k : (p == o) ≡ true = eq-eqb p o (sym (eqb-true x.number p here) ∙ eqb-true x.number o it) in
            rw (here, same x, it) (keep x k (subst (λ b. Silent n (cond b (Some x) (find (is_numbered o) xs))) it none))
        | inr other ↦ rw (here, same x, other) (subst (λ b. Silent n (cond b (Some x) (find (is_numbered o) xs))) other none)
      ]
      | inr there ↦ elim (cases_Bool (x.number == o)) [
        | inl it ↦ rw (there, it) (subst (λ b. Silent n (cond b (Some x) (find (is_numbered o) xs))) it none)
        | inr other ↦ rw (there, other) (peers_silent n p o f same keep xs (subst (λ b. Silent n (cond b (Some x) (find (is_numbered o) xs))) other none))
      ]
    ]

announced_silent : (n d o : ℕ) (a : Announcement) (ps : List Peer) → Silent n (find (is_numbered o) ps) → Silent n (find (is_numbered o) (map (also_owed d a) ps))
announced_silent n d o a [] none = none
announced_silent n d o a (x ∷ xs) none = go (x.number == d) (x.number == o) refl (λ h. announced_silent n d o a xs h) none
  where
    go : (b k : Bool) → (x.number == o) ≡ k → (Silent n (find (is_numbered o) xs) → Silent n (find (is_numbered o) (map (also_owed d a) xs))) → Silent n (cond k (Some x) (find (is_numbered o) xs)) → Silent n (cond (is_numbered o (cond b x (record x { announcements = x.announcements ++ a ∷ [] }))) (Some (cond b x (record x { announcements = x.announcements ++ a ∷ [] }))) (find (is_numbered o) (map (also_owed d a) xs)))
    go true true is more h = rw is h
    go true false is more h = rw is (more h)
    go false true is more h = rw is h
    go false false is more h = rw is (more h)

told_number : (x : Peer) → (first_put x).number ≡ x.number
told_number x = cond_both (length x.announcements == 0) (record x { free = x.free - 1; replies = drop 1 x.replies }) (record x { free = x.free - 1; announcements = drop 1 x.announcements }) (λ y. y.number ≡ x.number) (λ e. refl) (λ e. refl)

told_silent : (n : ℕ) (x : Peer) → Mute n x.replies → Mute n (first_put x).replies
told_silent n x none = cond_both (length x.announcements == 0) (record x { free = x.free - 1; replies = drop 1 x.replies }) (record x { free = x.free - 1; announcements = drop 1 x.announcements }) (λ y. Mute n y.replies) (λ e. no_fewer n x.replies none) (λ e. none)

pub still_silent : (o n : ℕ) (s : DomainState) (c : Change) → Fits o n s c → Silent n (peer_at s o) → Silent n (peer_at (changed s c) o)
still_silent o n s (end_announced a) fits none = announced_silent n s.number o a s.peers none
still_silent o n s (reply_owed p f) fits none = peers_silent n p o (λ x. record x { replies = x.replies ++ f ∷ [] }) (λ x. refl) (λ x is k. no_more n x.replies f (fits is) k) s.peers none
still_silent o n s (owed_put p) fits none = peers_silent n p o first_put told_number (λ x is k. told_silent n x k) s.peers none
still_silent o n s (buffers_back p count) fits none = peers_silent n p o (λ x. record x { free = x.free + count }) (λ x. refl) (λ x is k. k) s.peers none
still_silent o n s (frames_shown p count) fits none = peers_silent n p o (λ x. record x { shown = count }) (λ x. refl) (λ x is k. k) s.peers none
still_silent o n s (frame_taken p part names) fits none = peers_silent n p o (λ x. record x { shown = x.shown - 1; part = part }) (λ x. refl) (λ x is k. k) s.peers none
still_silent o n s (names_known p names) fits none = peers_silent n p o (λ x. record x { known = names }) (λ x. refl) (λ x is k. k) s.peers none
still_silent o n s (buffers_used p count) fits none = peers_silent n p o (λ x. record x { free = x.free - count }) (λ x. refl) (λ x is k. k) s.peers none
still_silent o n s other fits none = none

-- ---- one change

record Nothing (new : Option Heard) (came taken lost : List (List ℕ)) : Type 0 where
  new_none : new ≡ None
  came_none : came ≡ []
  taken_none : taken ≡ []
  lost_none : lost ≡ []

nothing_moves : (old new : Option Heard) (came taken lost : List (List ℕ)) → Moves old new came taken lost → old ≡ None → Nothing new came taken lost
nothing_moves old new came taken lost (stays o) none = record { new_none = none; came_none = refl; taken_none = refl; lost_none = refl }
nothing_moves old new came taken lost (comes x i l) none = absurd cc
nothing_moves old new came taken lost (passes x i l e) none = absurd cc
nothing_moves old new came taken lost (loses x i l) none = absurd cc
nothing_moves old new came taken lost (gives x l) none = absurd cc
nothing_moves old new came taken lost (turns x c k f e) none = absurd cc
nothing_moves old new came taken lost (shuts x c k f l e) none = absurd cc
nothing_moves old new came taken lost (ends x f l) none = absurd cc

abbrev pub after_change : ℕ → ℕ → DomainState → Change → List (List ℕ) → Lists → Lists
after_change o n s c came h = more h came (taken_by o n s c) (dropped_by o n s c)

none_still : (o n : ℕ) (s : DomainState) (c : Change) (came : List (List ℕ)) → Happens o n s c came → NoneHears o n s → NoneHears o n (changed s c)
none_still o n s c came hap none b = elim (cases_Bool (hap.at == b)) [
  | inl here ↦ let same : hap.at ≡ b = eqb-true hap.at b here in
      subst (λ k. heard o n (endpoint_of (changed s c) k) ≡ None) same (nothing_moves _ _ _ _ _ hap.here (none hap.at)).new_none
  | inr other ↦ hap.others b other ∙ none b
]

still_none : (h xs : List (List ℕ)) → h ≡ [] → xs ≡ [] → h ++ xs ≡ []
still_none h xs a b = rw (a, b) refl

pub hearing_step : (o n : ℕ) (w : Way) (h : Lists) (s : DomainState) (c : Change) (came : List (List ℕ)) → Happens o n s c came → (Silent n (peer_at s o) → Silent n (peer_at (changed s c) o)) → Hearing o n w h s → Hearing o n w (after_change o n s c came h) (changed s c)
hearing_step o n w h s c came hap quiet (unheard none silent way none_came taken lost words) =
    let gone = nothing_moves _ _ _ _ _ hap.here (none hap.at) in
    unheard (none_still o n s c came hap none) (silent.0, quiet silent.1) way (still_none _ _ none_came gone.came_none) (still_none _ _ taken gone.taken_none) (still_none _ _ lost gone.lost_none) words
hearing_step o n w h s c came hap quiet (refused none silent begun taken lost) =
    let gone = nothing_moves _ _ _ _ _ hap.here (none hap.at) in
    refused (none_still o n s c came hap none) (silent.0, quiet silent.1) begun (still_none _ _ taken gone.taken_none) (still_none _ _ lost gone.lost_none)
hearing_step o n w h s c came hap quiet (heard_at a others arrived at) =
    elim (cases_Bool (hap.at == a)) [
      | inl here ↦ let same : hap.at ≡ a = eqb-true hap.at a here in
          heard_at a (λ b other. hap.others b (subst (λ k. (k == b) ≡ false) (sym same) other) ∙ others b other) arrived
          (heard_moves a w h _ _ _ _ _ (subst (λ k. Moves (heard o n (endpoint_of s k)) (heard o n (endpoint_of (changed s c) k)) came (taken_by o n s c) (dropped_by o n s c)) same hap.here) at)
      | inr there ↦
          let gone = nothing_moves _ _ _ _ _ hap.here (others hap.at (ne_eqb a hap.at (λ e. absurd (eqb-false hap.at a there (sym e))))) in
          let lists : after_change o n s c came h ≡ h = ap (λ x. more h x (taken_by o n s c) (dropped_by o n s c)) gone.came_none ∙ (ap (λ x. more h [] x (dropped_by o n s c)) gone.taken_none ∙ (ap (λ x. more h [] [] x) gone.lost_none ∙ nothing h)) in
          heard_at a
          (λ b other. elim (cases_Bool (hap.at == b)) [
            | inl it ↦ subst (λ k. heard o n (endpoint_of (changed s c) k) ≡ None) (eqb-true hap.at b it) gone.new_none
            | inr apart ↦ hap.others b apart ∙ others b other
          ]) arrived
          (subst (λ k. HeardAt a w k (heard o n (endpoint_of (changed s c) a))) (sym lists) (subst (HeardAt a w h) (sym (hap.others a there)) at))
    ]

pub hearing_change : (o n : ℕ) (w : Way) (h : Lists) (s : DomainState) (c : Change) → Fits o n s c → Hearing o n w h s → Hearing o n w (after_change o n s c [] h) (changed s c)
hearing_change o n w h s c fits hearing = hearing_step o n w h s c [] (happens o n s c fits) (still_silent o n s c fits) hearing

-- ---- changes one after the other

abbrev pub FitAll : ℕ → ℕ → DomainState → List Change → Type 0
FitAll o n s [] = Unit {0}
FitAll o n s (c ∷ cs) = Fits o n s c × FitAll o n (changed s c) cs

abbrev pub after_changes : ℕ → ℕ → DomainState → List Change → Lists → Lists
after_changes o n s cs h = more h [] (through (taken_by o n) s cs) (through (dropped_by o n) s cs)

pub more_more : (h : Lists) (a b c x y z : List (List ℕ)) → more (more h a b c) x y z ≡ more h (a ++ x) (b ++ y) (c ++ z)
more_more h a b c x y z = simp append_assoc

pub hearing_changes : (o n : ℕ) (w : Way) (h : Lists) (s : DomainState) (cs : List Change) → FitAll o n s cs → Hearing o n w h s → Hearing o n w (after_changes o n s cs h) (changed_all s cs)
hearing_changes o n w h s [] fits hearing = subst (λ k. Hearing o n w k s) (sym (nothing h)) hearing
hearing_changes o n w h s (c ∷ cs) fits hearing =
    subst (λ k. Hearing o n w k (changed_all s (c ∷ cs))) (more_more h _ _ _ _ _ _)
    (hearing_changes o n w (after_change o n s c [] h) (changed s c) cs fits.1 (hearing_change o n w h s c fits.0 hearing))
