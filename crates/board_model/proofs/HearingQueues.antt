-- What is queued of a channel, over all endpoints of a domain: the queue of the one that hears it.
use Rattle.std.proofs.Common.{◌≡◌, ℕ, ◌+◌, ◌≤◌, ◌<◌, Bool, true, false, cond, inl, inr, List, [], ◌∷◌, ◌++◌, map, Option, Some, None, refl, sym, ap, ◌∙◌, arith}
use Rattle.std.specs.Prelude.{find, ◌==◌}
use Rattle.std.specs.List.{AllByRecursion, flat_map}
use Rattle.std.proofs.lemmas.List.{append-nil}
use Rattle.std.proofs.lemmas.Bool.{eqb-true, eq-eqb, ne_eqb, eqb-false, cases_Bool}
use Rattle.mc_base.specs.Limits.{first_address}
use Rattle.board_model.specs.ChannelEnds.{hears_from}
use Rattle.board_model.specs.Channels.{contents_of}
use Rattle.board_model.specs.State.{Item, ChannelEnd, Endpoint, DomainState, has_address_of, endpoint_of}
use Rattle.board_model.proofs.ChannelWords.{end_is, contents_if}
use Rattle.board_model.proofs.Hearing.{Heard, heard_of, heard, NoneHears}
use Rattle.board_model.proofs.HearingItems.{bound_contents}
use Rattle.board_model.proofs.OrderSound.{Rise, Sound, IsBound}

abbrev pub queued_on : ℕ → ℕ → DomainState → List (List ℕ)
queued_on o n s = flat_map (λ e. contents_of o n e.queue) s.endpoints

find_none : (b lo hi : ℕ) (es : List Endpoint) → Rise lo es hi → b < lo → find (has_address_of b) es ≡ None
find_none b lo hi [] rise less = refl
find_none b lo hi (e ∷ es) rise less =
    let here : lo ≤ e.address = rise.0 in
    rw (ne_eqb e.address b (λ k. absurd (omega arith))) (find_none b (e.address + 1) hi es rise.1 (omega arith))

module _ (o n : ℕ) where
  abbrev pub of_heard : Option Heard → List (List ℕ)
  of_heard None = []
  of_heard (Some x) = map (λ i. i.content) x.queue

  abbrev queued_in : List Endpoint → List (List ℕ)
  queued_in es = flat_map (λ e. contents_of o n e.queue) es

  -- of one endpoint
  heard_contents : (e : Endpoint) → IsBound e → contents_of o n e.queue ≡ of_heard (heard o n (Some e))
  heard_contents e bound = bound_contents o n e.queue e.channel bound ∙ go e.channel
    where
      at_end : (c : ChannelEnd) (b : Bool) → contents_if b e.queue ≡ of_heard (cond b (Some (record { end = c; queue = e.queue })) None)
      at_end c true = refl
      at_end c false = refl

      go : (x : Option ChannelEnd) → contents_if (end_is (hears_from o n) x) e.queue ≡ of_heard (heard_of o n x e.queue)
      go None = refl
      go (Some c) = at_end c (hears_from o n c)

  tail_none : (lo hi : ℕ) (e : Endpoint) (es : List Endpoint) → Rise lo (e ∷ es) hi → (b : ℕ) → heard o n (find (has_address_of b) (e ∷ es)) ≡ None → heard o n (find (has_address_of b) es) ≡ None
  tail_none lo hi e es rise b none = go (e.address == b) refl none
    where
      go : (k : Bool) → (e.address == b) ≡ k → heard o n (cond k (Some e) (find (has_address_of b) es)) ≡ None → heard o n (find (has_address_of b) es) ≡ None
      go true is none = let same : e.address ≡ b = eqb-true e.address b is in ap (heard o n) (find_none b (e.address + 1) hi es rise.1 (omega arith))
      go false is none = none

  head_is : (e : Endpoint) (es : List Endpoint) (x : Option Heard) → IsBound e → heard o n (find (has_address_of e.address) (e ∷ es)) ≡ x → contents_of o n e.queue ≡ of_heard x
  head_is e es x bound is = heard_contents e bound ∙ ap of_heard (sym (ap (λ k. heard o n (cond k (Some e) (find (has_address_of e.address) es))) (eq-eqb e.address e.address refl)) ∙ is)

  none_queued : (lo hi : ℕ) (es : List Endpoint) → Rise lo es hi → AllByRecursion IsBound es → ((b : ℕ) → heard o n (find (has_address_of b) es) ≡ None) → queued_in es ≡ []
  none_queued lo hi [] rise bound none = refl
  none_queued lo hi (e ∷ es) rise bound none =
      ap (λ k. k ++ queued_in es) (head_is e es None bound.0 (none e.address)) ∙ none_queued (e.address + 1) hi es rise.1 bound.1 (λ b. tail_none lo hi e es rise b (none b))

  one_queued : (lo hi a : ℕ) (x : Heard) (es : List Endpoint) → Rise lo es hi → AllByRecursion IsBound es → heard o n (find (has_address_of a) es) ≡ Some x → ((b : ℕ) → (a == b) ≡ false → heard o n (find (has_address_of b) es) ≡ None) → queued_in es ≡ map (λ i. i.content) x.queue
  one_queued lo hi a x [] rise bound is others = absurd cc
  one_queued lo hi a x (e ∷ es) rise bound is others = elim (cases_Bool (e.address == a)) [
    | inl here ↦
        let one : e.address ≡ a = eqb-true e.address a here in
        let head = head_is e es (Some x) bound.0 (ap (λ k. heard o n (find (has_address_of k) (e ∷ es))) one ∙ is) in
        let rest = none_queued (e.address + 1) hi es rise.1 bound.1 (λ b. elim (cases_Bool (a == b)) [
          | inl same ↦ let k : a ≡ b = eqb-true a b same in ap (heard o n) (find_none b (e.address + 1) hi es rise.1 (omega arith))
          | inr far ↦ tail_none lo hi e es rise b (others b far)
        ]) in
        ap (λ k. k ++ queued_in es) head ∙ (ap (λ k. map (λ (i : Item). i.content) x.queue ++ k) rest ∙ append-nil (map (λ (i : Item). i.content) x.queue))
    | inr far ↦
        ap (λ k. k ++ queued_in es) (head_is e es None bound.0 (others e.address (ne_eqb a e.address (λ k. absurd (eqb-false e.address a far (sym k))))))
        ∙ one_queued (e.address + 1) hi a x es rise.1 bound.1 (ap (λ k. heard o n (cond k (Some e) (find (has_address_of a) es))) (sym far) ∙ is) (λ b other. tail_none lo hi e es rise b (others b other))
  ]

  pub nothing_queued : (s : DomainState) → Sound s → NoneHears o n s → queued_on o n s ≡ []
  nothing_queued s sound none = none_queued first_address (first_address + s.endpoints_given) s.endpoints sound.rise sound.bound none

  pub heard_queued : (s : DomainState) → Sound s → (a : ℕ) (x : Heard) → heard o n (endpoint_of s a) ≡ Some x → ((b : ℕ) → (a == b) ≡ false → heard o n (endpoint_of s b) ≡ None) → queued_on o n s ≡ map (λ i. i.content) x.queue
  heard_queued s sound a x is others = one_queued first_address (first_address + s.endpoints_given) a x s.endpoints sound.rise sound.bound is others
