-- A channel over the runs of its two domains, whose two lanes fit together. Neither run knows the other's time: a frame may be taken in
-- the one before the entry of the other that puts it.
use Rattle.board_model.proofs.PartReadings.{readings-append}
use Rattle.board_model.proofs.PartRuns.{IsKnown, said_along}
use Rattle.board_model.specs.Parts.{said_from, readings, part_after}
use Rattle.std.proofs.Common.{◌≡◌, ◌⊎◌, inl, inr, ℕ, zero, suc, ◌+◌, ◌<◌, ◌^◌, Bool, true, false, cond, List, [], ◌∷◌, ◌++◌, map, Option, Some, None, refl, sym, ap, ◌∙◌, subst, arith}
use Rattle.std.specs.Prelude.{◌==◌, ◌||◌}
use Rattle.std.specs.List.{AllByRecursion, flat_map, list_any}
use Rattle.std.proofs.lemmas.List.{append_assoc}
use Rattle.mc_base.specs.Reading.{reading, Reading}
use Rattle.mc_base.specs.declared.fate.Fate.{Fate}
use Rattle.board_model.specs.Channels.{data_said, lost_by, words_by, arrives, accepted_by, named_by}
use Rattle.board_model.specs.Deeds.{Deed, takes, after_deed, AllMayDo, after_deeds, along}
use Rattle.board_model.specs.Lists.{IsPrefix}
use Rattle.board_model.specs.Scenario.{Neighbour}
use Rattle.board_model.specs.State.{ChannelEnd, DomainState, opening, endpoint_of}
use Rattle.board_model.proofs.ChannelLists.{letters-contents}
use Rattle.board_model.proofs.ChannelWords.{Way, not_begun, letters, contents, InOrder, way_of, letters_of, Sent}
use Rattle.board_model.proofs.DeedRuns.{puts_by, takes_by, says_by}
use Rattle.board_model.proofs.Hearing.{accepts, NoAccept}
use Rattle.board_model.proofs.HearingLaw.{in_order-parts, contents-append, takes_on, came_on, Received, unaccepted, accepted, opening_sound, IsSmallFrame, received, letters_of-append}
use Rattle.board_model.proofs.HearingQueues.{queued_on}
use Rattle.board_model.proofs.HearingSmall.{small_puts}
use Rattle.board_model.proofs.ListsOne.{empty_parts}
use Rattle.board_model.proofs.MessageAlls.{all-parts}
use Rattle.board_model.proofs.OneLane.{Aim, no_aim, aim_run}
use Rattle.board_model.proofs.OrderSerials.{Serials, all_succeed}
use Rattle.board_model.proofs.Sending.{Accepted, MayHave, SentAt, sent, Sending, fresh, numbered}
use Rattle.board_model.proofs.SendingDeeds.{AllRead, AllOut, all_out, SentOut, run_sending}

-- ---- words

-- where no data came there are no words of data
module _ (o n : ℕ) where
  frame_words : (b : Bool) (r : Reading) (word : Fate) → contents (letters_of n (cond b (r ∷ []) [])) ≡ [] → cond b (map (λ content. word) (data_said n r)) [] ≡ []
  frame_words false r word none = refl
  frame_words true r word none = ap (map (λ content. word)) (empty_parts (data_said n r) [] (sym (letters-contents n (r ∷ [])) ∙ none)).0

  deed_words : (s : DomainState) (d : Deed) → contents (letters_of n (says_by o s d)) ≡ [] → words_by o n s d ≡ []
  deed_words s (takes p name frame word) none = frame_words (p == o) (said_from s p frame) word none
  deed_words s other none = refl

  pub no_words : (s : DomainState) (ds : List Deed) → came_on o n s ds ≡ [] → along (words_by o n) s ds ≡ []
  no_words s [] none = refl
  no_words s (d ∷ ds) none =
      let here : List Reading = says_by o s d in
      let later : List Reading = along (says_by o) (after_deed s d) ds in
      let parts = empty_parts (contents (letters_of n here)) (contents (letters_of n later)) (sym (ap contents (letters_of-append n here later) ∙ contents-append (letters_of n here) (letters_of n later)) ∙ none) in
      ap (λ ws. ws ++ along (words_by o n) (after_deed s d) ds) (deed_words s d parts.0) ∙ no_words (after_deed s d) ds parts.1

none_accepted : (n : ℕ) (fs : List (List ℕ)) → NoAccept n fs → Accepted n fs → ⊥
none_accepted n [] none some = absurd cc
none_accepted n (f ∷ fs) none some = none_accepted n fs none.1 (subst (λ b. (b || list_any (λ g. accepts n (reading g)) fs) ≡ true) none.0 some)

-- ---- the sender's run

module _ (o n nodes : ℕ) (at : List Neighbour) (sends : List Deed) where
  abbrev sender : DomainState
  sender = opening o nodes at

  -- what is put on the lane to a domain
  abbrev pub put_on : ℕ → List (List ℕ)
  put_on p = along (puts_by p) sender sends

  begin : (k p : ℕ) → Sending k p not_begun [] [] sender
  begin zero p = numbered (omega arith) 0 (λ b h. refl) (inl refl)
  begin (suc k) p = fresh (λ b. refl) (omega arith) refl refl

  may_have : (p : ℕ) (w : Way) (t m : List (List ℕ)) (s : DomainState) → Sending n p w t m s → MayHave n t m
  may_have p w t m s (fresh none below way empty) = inl empty
  may_have p w t m s (numbered given a others here) = go (sent n (endpoint_of s a)) here
    where
      go : (y : Option ChannelEnd) → SentAt n p w t m y → MayHave n t m
      go None may = may
      go (Some c) out = out.may

  module _ (may : AllMayDo sender sends) (read : AllRead sender sends) (few : all_succeed sends + 1 < 2 ^ 64) where
    out : AllOut sender sends
    out =
        let serials : Serials (all_succeed sends) sender = record { differ = tt; below = tt; small = omega arith } in
        all_out (all_succeed sends) sender sends may (opening_sound o nodes at) serials (omega arith) read

    run_out : (p : ℕ) → SentOut n p not_begun [] [] (letters n (put_on p)) (flat_map (takes_by p) sends) (after_deeds sender sends)
    run_out p = run_sending n p not_begun [] [] sender sends may out (begin n p)

    -- its letters are in order, and data go only where an accept came from
    pub lane_order : (p : ℕ) → InOrder not_begun (letters n (put_on p))
    lane_order p = (run_out p).0

    pub lane_data : (p : ℕ) → MayHave n (flat_map (takes_by p) sends) (contents (letters n (put_on p)))
    lane_data p = may_have p _ _ _ _ (run_out p).1

    -- they go on one lane
    pub aim : Aim (λ p. way_of not_begun (letters n (put_on p))) (λ p. contents (letters n (put_on p))) (along (accepted_by n) sender sends) (along (named_by n) sender sends)
    aim = aim_run n sender sends (λ p. not_begun) (λ p. []) (λ p. []) [] [] may out (λ p. begin n p) (no_aim (λ p. refl) (λ p. refl) refl)

    -- nothing of it is put where no frame came from
    pub nothing_from : (p : ℕ) → flat_map (takes_by p) sends ≡ [] → contents (letters n (put_on p)) ≡ []
    nothing_from p none = go (lane_data p)
      where
        go : MayHave n (flat_map (takes_by p) sends) (contents (letters n (put_on p))) → contents (letters n (put_on p)) ≡ []
        go (inl empty) = empty
        go (inr some) = absurd (none_accepted n [] tt (subst (Accepted n) none some))

    -- ---- and the receiver's

    module _ (r nodes_r : ℕ) (at_r : List Neighbour) (hears : List Deed) where
      abbrev receiver : DomainState
      receiver = opening r nodes_r at_r

      abbrev taken_there : List (List ℕ)
      taken_there = along (takes_on o n) receiver hears

      abbrev lost_there : List (List ℕ)
      lost_there = along (lost_by o n) receiver hears

      abbrev queued_there : List (List ℕ)
      queued_there = queued_on o n (after_deeds receiver hears)

      -- what was put is what was taken, then what was lost and what is queued, not both of which there are, and what the rest of the lane
      -- carries; and each data frame taken arrived
      pub record Passed (rest : List (List ℕ)) : Type 0 where
        pub kept : contents (letters n (put_on r)) ≡ taken_there ++ (lost_there ++ (queued_there ++ contents (letters_of n (readings (part_after None (flat_map (takes_by o) hears)) rest))))
        pub either : (lost_there ≡ []) ⊎ (queued_there ≡ [])
        pub arrive : AllByRecursion (λ word. arrives word ≡ true) (along (words_by o n) receiver hears)

      module _ (known_r : (flat_map (takes_by o) hears ≡ []) ⊎ IsKnown receiver o) (may_r : AllMayDo receiver hears) (few_r : all_succeed hears + 1 < 2 ^ 64) (forth : IsPrefix (flat_map (takes_by o) hears) (put_on r)) (back : IsPrefix (flat_map (takes_by r) sends) (along (puts_by o) receiver hears)) where
        -- the letters of the frames that are left on the lane
        abbrev left_on : List Sent
        left_on = letters_of n (readings (part_after None (flat_map (takes_by o) hears)) forth.0)

        -- what the frames taken say is what the domain read of them
        said : readings None (flat_map (takes_by o) hears) ≡ along (says_by o) receiver hears
        said = said_along o r nodes_r at_r hears known_r

        split : letters n (put_on r) ≡ letters_of n (along (says_by o) receiver hears) ++ left_on
        split = ap (letters n) forth.1 ∙ (ap (letters_of n) (readings-append None (flat_map (takes_by o) hears) forth.0) ∙ (letters_of-append n (readings None (flat_map (takes_by o) hears)) (readings (part_after None (flat_map (takes_by o) hears)) forth.0) ∙ ap (λ rs. letters_of n rs ++ left_on) said))

        all_came : contents (letters n (put_on r)) ≡ came_on o n receiver hears ++ contents left_on
        all_came = ap contents split ∙ contents-append (letters_of n (along (says_by o) receiver hears)) left_on

        small : AllByRecursion IsSmallFrame (flat_map (takes_by o) hears)
        small = (all-parts IsSmallFrame (flat_map (takes_by o) hears) forth.0 (subst (AllByRecursion IsSmallFrame) forth.1 (small_puts r sender sends may))).0

        heard : Received o n receiver hears
        heard = received o n r nodes_r at_r hears may_r small few_r (in_order-parts not_begun (letters_of n (along (says_by o) receiver hears)) left_on (subst (InOrder not_begun) split (lane_order r))).0

        -- where no accept was put, nothing was sent
        no_data : NoAccept n (along (puts_by o) receiver hears) → contents (letters n (put_on r)) ≡ []
        no_data silent = go (lane_data r)
          where
            none : NoAccept n (flat_map (takes_by r) sends)
            none = (all-parts (λ f. accepts n (reading f) ≡ false) (flat_map (takes_by r) sends) back.0 (subst (NoAccept n) back.1 silent)).0

            go : MayHave n (flat_map (takes_by r) sends) (contents (letters n (put_on r))) → contents (letters n (put_on r)) ≡ []
            go (inl empty) = empty
            go (inr some) = absurd (none_accepted n (flat_map (takes_by r) sends) none some)

        pub passed : Passed forth.0
        passed = go heard
          where
            go : Received o n receiver hears → Passed forth.0
            go (unaccepted silent taken lost queued) =
                let empty = no_data silent in
                let parts = empty_parts (came_on o n receiver hears) (contents left_on) (sym all_came ∙ empty) in
                record { kept = rw (empty, taken, lost, queued, parts.1) refl; either = inl lost; arrive = subst (AllByRecursion (λ word. arrives word ≡ true)) (sym (no_words o n receiver hears parts.0)) tt }
            go (accepted came either arrive) = record {
              kept = all_came ∙ (ap (λ cs. cs ++ contents left_on) came ∙ (append_assoc taken_there (lost_there ++ queued_there) (contents left_on) ∙ ap (λ cs. taken_there ++ cs) (append_assoc lost_there queued_there (contents left_on))));
              either = either;
              arrive = arrive;
            }
