-- The channels of a relay's run: the one of a domain accepts what its log sent, and is taken at the next domain, as that one's log received it.
use Rattle.std.proofs.Common.{Option, None, ◌≡◌, ◌⊎◌, ℕ, zero, suc, ◌+◌, ◌≤◌, ◌<◌, Bool, true, false, cond, List, [], ◌∷◌, ◌++◌, map, filter, find, flat_map, Some, refl, ap, sym, subst, ◌∙◌, arith, inl, inr}
use Rattle.std.specs.Prelude.{◌==◌, Contains}
use Rattle.std.specs.List.{AllByRecursion}
use Rattle.std.proofs.lemmas.Bool.{cases_Bool, eqb-true, eqb-false}
use Rattle.std.proofs.lemmas.List.{map-append}
use Rattle.std.proofs.lemmas.List.Elements.{All-contains, All-from_recursion}
use Rattle.std.proofs.lemmas.Simd.{map-map}
use Rattle.board_model.specs.declared.scenario.DomainLine.{DomainLine}
use Rattle.board_model.specs.declared.scenario.Scenario.{Scenario}
use Rattle.board_model.specs.State.{Item}
use Rattle.board_model.specs.LinkedBoard.{Differ, IsLinkedBoard}
use Rattle.board_model.specs.Run.{IsDomainRun}
use Rattle.board_model.specs.Board.{DomainJournal, IsBoardRun}
use Rattle.board_model.specs.Channels.{accepted_by, accepted_in, named_by, named_in, domains_named, is_of_channel, contents_of, taken_on}
use Rattle.board_model.specs.ChannelLaws.{EndsWhereNamed}
use Rattle.board_model.specs.Deeds.{along}
use Rattle.board_model.specs.JournalDeeds.{deeds_of, opened}
use Rattle.board_model.specs.Logs.{log_of}
use Rattle.board_model.specs.Takings.{Taking, takings_in}
use Rattle.board_model.proofs.ChannelBoard.{JournalRun}
use Rattle.board_model.proofs.ChannelLaw.{each_runs, every-channel-is-kept, channels-end-where-named}
use Rattle.board_model.proofs.ListsApart.{all-joined}
use Rattle.board_model.proofs.ListsOne.{all-any, differ-one, empty_parts, joined-none, joined-one}
use Rattle.board_model.proofs.MessageAlls.{all-found, all-weaken, all-with, found-passes, none-passes}
use Rattle.board_model.proofs.PlaceBoards.{rising_differ}
use Rattle.board_model.proofs.WholeHas.{Has, has-weaken, has-each, has-found}
use Rattle.board_model.proofs.WholeJoined.{has-rising}
use Rattle.hop_relay.specs.Roles.{FitsRole}
use Rattle.hop_relay.specs.Hop.{sent, received}
use Rattle.hop_relay.specs.RelayBoard.{numbers_below, relay_domain, role_of}
use Rattle.hop_relay.specs.RelayLaw.{accepted_at, taken_at, left_at, IsEmptyAt, log_in, log_at, IsRelayRun, HopFitsLogs}
use Rattle.hop_relay.proofs.NumbersBelow.{less_other}
use Rattle.hop_relay.proofs.RelayPackets.{OfChannel, contents_in, Takes}
use Rattle.hop_relay.proofs.RoleNumbers.{role_is}
use Rattle.hop_relay.proofs.RelayJournals.{unnamed_accepts, names_next, accepts_sent, takes_received}

-- ---- lists

contained : (P : ℕ → Type 0) (xs : List ℕ) (n : ℕ) → AllByRecursion P xs → Contains xs n → P n
contained P xs n all c = All-contains P xs n (All-from_recursion P xs all) c

has_front : (P : DomainLine → Type 0) (xs ys : List DomainLine) → Has P xs → Has P (xs ++ ys)
has_front P [] ys h = absurd h
has_front P (x ∷ xs) ys (inl h) = inl h
has_front P (x ∷ xs) ys (inr h) = inr (has_front P xs ys h)

has_end : (P : DomainLine → Type 0) (xs : List DomainLine) (y : DomainLine) → P y → Has P (xs ++ y ∷ [])
has_end P [] y h = inl h
has_end P (x ∷ xs) y h = inr (has_end P xs y h)

-- each number below is that of a domain of the row
row_has : (n d : ℕ) → d < n → Has (λ (x : DomainLine). (x.domain == d) ≡ true) (map relay_domain (numbers_below n))
row_has zero d less = absurd (omega (arith, less))
row_has (suc n) d less = subst (Has (λ (x : DomainLine). (x.domain == d) ≡ true)) (sym (map-append relay_domain (numbers_below n) (n ∷ []))) (elim (cases_Bool (n == d)) [
  | inl here ↦ has_end (λ (x : DomainLine). (x.domain == d) ≡ true) (map relay_domain (numbers_below n)) (relay_domain n) here
  | inr other ↦ has_front (λ (x : DomainLine). (x.domain == d) ≡ true) (map relay_domain (numbers_below n)) (relay_domain n ∷ []) (row_has n d (less_other d n less (eqb-false n d other)))
])

has_line : (P : DomainLine → Type 0) (js : List DomainJournal) → Has P (map (λ j. j.line) js) → Has (λ (j : DomainJournal). P j.line) js
has_line P [] h = h
has_line P (j ∷ js) (inl h) = inl h
has_line P (j ∷ js) (inr h) = inr (has_line P js h)

-- where all joined is empty, so is each
each_empty : (f : DomainJournal → List (List ℕ)) (js : List DomainJournal) → flat_map f js ≡ [] → AllByRecursion (λ j. f j ≡ []) js
each_empty f [] none = tt
each_empty f (j ∷ js) none = let parts = empty_parts (f j) (flat_map f js) none in (parts.0, each_empty f js parts.1)

-- ---- the items of one channel among those that were taken

module _ (o n : ℕ) where
  found_one : (ts : List Taking) → Has (λ (t : Taking). is_of_channel o n t.item ≡ true) ts → contents_of o n (map (λ t. t.item) ts) ≡ [] → ⊥
  found_one [] h none = h
  found_one (t ∷ ts) h none = go (is_of_channel o n t.item) refl h none (λ k m. found_one ts k m)
    where
      go : (b : Bool) → is_of_channel o n t.item ≡ b → (is_of_channel o n t.item ≡ true) ⊎ Has (λ (u : Taking). is_of_channel o n u.item ≡ true) ts →
          map (λ (i : Item). i.content) (cond b (t.item ∷ filter (is_of_channel o n) (map (λ u. u.item) ts)) (filter (is_of_channel o n) (map (λ u. u.item) ts))) ≡ [] →
          (Has (λ (u : Taking). is_of_channel o n u.item ≡ true) ts → contents_of o n (map (λ u. u.item) ts) ≡ [] → ⊥) → ⊥
      go true is k none later = absurd cc
      go false is (inl at) none later = absurd cc
      go false is (inr k) none later = later k none

  all_of_one : (ts : List Taking) → AllByRecursion (λ t. is_of_channel o n t.item ≡ true) ts → contents_of o n (map (λ t. t.item) ts) ≡ contents_in ts
  all_of_one [] all = refl
  all_of_one (t ∷ ts) all =
      ap (λ b. map (λ (i : Item). i.content) (cond b (t.item ∷ filter (is_of_channel o n) (map (λ u. u.item) ts)) (filter (is_of_channel o n) (map (λ u. u.item) ts)))) all.0
      ∙ ap (λ cs. t.item.content ∷ cs) (all_of_one ts all.1)

-- ---- the journals of a run, one of each domain

module _ (s : Scenario) (js : List DomainJournal) (board : IsLinkedBoard s) (run : IsBoardRun s js) where
  domains_apart : Differ (map (λ j. j.line.domain) js)
  domains_apart = subst Differ (sym (sym (map-map (λ (d : DomainLine). d.domain) (λ (j : DomainJournal). j.line) js) ∙ ap (map (λ (d : DomainLine). d.domain)) run.each_domain)) (rising_differ s board)

  -- what only the domain of a number has is what its journal has
  module _ {A : Type 0} (f : DomainJournal → List A) (d : ℕ) where
    pub of_domain : (h : DomainJournal → List A) → ((k : DomainJournal) → h k ≡ cond (k.line.domain == d) (f k) []) → (j : DomainJournal) → find (λ k. k.line.domain == d) js ≡ Some j → flat_map h js ≡ f j
    of_domain h is j found =
        joined-one h (λ k. k.line.domain == d) js j (differ-one (λ (k : DomainJournal). k.line.domain) d js domains_apart)
        (all-any (λ k. (k.line.domain == d) ≡ false → h k ≡ []) (λ k far. is k ∙ ap (λ b. cond b (f k) []) far) js) found
        ∙ is j ∙ ap (λ b. cond b (f j) []) (found-passes (λ k. k.line.domain == d) js j found)

    pub of_none : (h : DomainJournal → List A) → ((k : DomainJournal) → h k ≡ cond (k.line.domain == d) (f k) []) → find (λ k. k.line.domain == d) js ≡ None → flat_map h js ≡ []
    of_none h is none = joined-none h js (all-weaken (λ k. (k.line.domain == d) ≡ false) (λ k. h k ≡ []) (λ k far. is k ∙ ap (λ b. cond b (f k) []) far) js (none-passes (λ k. k.line.domain == d) js none))

  -- a channel that was never numbered accepted nothing
  unnumbered_accepts : (d : ℕ) → domains_named s js d 1 ≡ [] → accepted_at s js d ≡ []
  unnumbered_accepts d none = go (find (λ k. k.line.domain == d) js) refl
    where
      accepts : DomainJournal → List (List ℕ)
      accepts k = along (accepted_by 1) (opened s k) (deeds_of s k)

      names : DomainJournal → List ℕ
      names k = along (named_by 1) (opened s k) (deeds_of s k)

      go : (o : Option DomainJournal) → find (λ k. k.line.domain == d) js ≡ o → accepted_at s js d ≡ []
      go None found = of_none accepts d (accepted_in s d 1) (λ k. refl) found
      go (Some j) found =
          of_domain accepts d (accepted_in s d 1) (λ k. refl) j found
          ∙ unnamed_accepts s j (all-found (JournalRun s) (λ k. k.line.domain == d) js j (each_runs s js board run) found) 1 (sym (of_domain names d (named_in s d 1) (λ k. refl) j found) ∙ none)

  pub unnumbered_empty : (d : ℕ) → domains_named s js d 1 ≡ [] → IsEmptyAt s js d
  unnumbered_empty d none =
      let accepted = unnumbered_accepts d none in
      let parts = empty_parts (taken_at s js d) (left_at s js d) (sym (every-channel-is-kept s js board run d 1).kept ∙ accepted) in
      record { none_accepted = accepted; none_taken = parts.0; none_left = parts.1 }

-- ---- the run of a relay

module _ (packets : List (List ℕ)) (hops size most : ℕ) (s : Scenario) (js : List DomainJournal) (run : IsRelayRun packets hops size most s js) where
  -- what is known of each journal
  record Known (j : DomainJournal) : Type 0 where
    is_run : IsDomainRun s j.line j.entries
    own : JournalRun s j
    fits : FitsRole (role_of packets hops most j.line.domain) (log_of s j)

  each_known : AllByRecursion Known js
  each_known =
      all-with (λ j. IsDomainRun s j.line j.entries) (λ j. JournalRun s j × FitsRole (role_of packets hops most j.line.domain) (log_of s j)) Known (λ j r both. record { is_run = r; own = both.0; fits = both.1 }) js run.is_run.domain_runs
      (all-with (JournalRun s) (λ j. FitsRole (role_of packets hops most j.line.domain) (log_of s j)) (λ j. JournalRun s j × FitsRole (role_of packets hops most j.line.domain) (log_of s j)) (λ j own fits. (own, fits)) js
      (each_runs s js run.linked run.is_run) run.logs_fit)

  -- each domain of the row has its journal
  record Placed (d : ℕ) : Type 0 where
    journal : DomainJournal
    found : find (λ j. j.line.domain == d) js ≡ Some journal
    number : journal.line.domain ≡ d
    known : Known journal

  placed : (d : ℕ) → d ≤ hops → Placed d
  placed d less =
      let row : Has (λ (x : DomainLine). (x.domain == d) ≡ true) s.domains = subst (Has (λ (x : DomainLine). (x.domain == d) ≡ true)) (sym run.board.domains) (row_has (hops + 1) d (omega arith)) in
      let lines : Has (λ (x : DomainLine). (x.domain == d) ≡ true) (map (λ j. j.line) js) = subst (Has (λ (x : DomainLine). (x.domain == d) ≡ true)) (sym run.is_run.each_domain) (has-rising (λ (x : DomainLine). (x.domain == d) ≡ true) s.domains row) in
      let found = has-found (λ j. j.line.domain == d) js (has_line (λ (x : DomainLine). (x.domain == d) ≡ true) js lines) in
      record {
        journal = found.0;
        found = found.1;
        number = eqb-true found.0.line.domain d (found-passes (λ j. j.line.domain == d) js found.0 found.1);
        known = all-found Known (λ j. j.line.domain == d) js found.0 each_known found.1;
      }

  log_is : (d : ℕ) (at : Placed d) → log_at s js d ≡ log_of s at.journal
  log_is d at = ap (log_in s) at.found

  pub fits_at : (d : ℕ) → d ≤ hops → FitsRole (role_of packets hops most d) (log_at s js d)
  fits_at d less =
      let at = placed d less in
      subst (FitsRole (role_of packets hops most d)) (sym (log_is d at)) (subst (λ n. FitsRole (role_of packets hops most n) (log_of s at.journal)) at.number at.known.fits)

  -- ---- a channel that was numbered is 1, and leads to the domain after its owner

  abbrev Leads : (o n : ℕ) → ℕ → Type 0
  Leads o n q = (q ≡ o + 1) × (n ≡ 1)

  all_lead : (o n : ℕ) → AllByRecursion (Leads o n) (domains_named s js o n)
  all_lead o n = all-joined (Leads o n) (named_in s o n) js (all-weaken Known (λ j. AllByRecursion (Leads o n) (named_in s o n j)) (λ j known. one j (names_next s j known.is_run known.own (role_of packets hops most j.line.domain) (role_is packets hops most j.line.domain) known.fits n)) js each_known)
    where
      one : (j : DomainJournal) → AllByRecursion (Leads j.line.domain n) (along (named_by n) (opened s j) (deeds_of s j)) → AllByRecursion (Leads o n) (named_in s o n j)
      one j all = go (j.line.domain == o) refl
        where
          go : (b : Bool) → (j.line.domain == o) ≡ b → AllByRecursion (Leads o n) (cond b (along (named_by n) (opened s j) (deeds_of s j)) [])
          go true is = subst (λ d. AllByRecursion (Leads d n) (along (named_by n) (opened s j) (deeds_of s j))) (eqb-true j.line.domain o is) all
          go false is = tt

  -- items are taken at no other
  taken_nowhere : (o n : ℕ) → AllByRecursion (λ j. (j.line.domain == o + 1) ≡ false → taken_on s o n j ≡ []) js
  taken_nowhere o n = go (channels-end-where-named s js run.linked run.is_run o n)
    where
      go : EndsWhereNamed s js o n → AllByRecursion (λ j. (j.line.domain == o + 1) ≡ false → taken_on s o n j ≡ []) js
      go (inl none) = all-weaken (λ j. taken_on s o n j ≡ []) (λ j. (j.line.domain == o + 1) ≡ false → taken_on s o n j ≡ []) (λ j empty far. empty) js (each_empty (taken_on s o n) js none)
      go (inr (q, named, at)) =
          let lead = contained (Leads o n) (domains_named s js o n) q (all_lead o n) named in
          subst (λ k. AllByRecursion (λ j. (j.line.domain == k) ≡ false → taken_on s o n j ≡ []) js) lead.0 at

  -- an item of channel n that is taken at a domain is of its channel 1, which the domain before owns
  owner_before : (d : ℕ) (at : Placed (d + 1)) (o n : ℕ) → (taken_on s o n at.journal ≡ [] → ⊥) → (d ≡ o) × (1 ≡ n)
  owner_before d at o n some = go (channels-end-where-named s js run.linked run.is_run o n)
    where
      own : (P : DomainJournal → Type 0) → AllByRecursion P js → P at.journal
      own P all = all-found P (λ j. j.line.domain == d + 1) js at.journal all at.found

      go : EndsWhereNamed s js o n → (d ≡ o) × (1 ≡ n)
      go (inl none) = absurd (some (own (λ j. taken_on s o n j ≡ []) (each_empty (taken_on s o n) js none)))
      go (inr (q, named, apart)) =
          let lead = contained (Leads o n) (domains_named s js o n) q (all_lead o n) named in
          elim (cases_Bool (at.journal.line.domain == q)) [
            | inl here ↦ let same : at.journal.line.domain ≡ q = eqb-true at.journal.line.domain q here in (omega (arith, same, lead.0, at.number), sym lead.1)
            | inr far ↦ absurd (some (own (λ j. (j.line.domain == q) ≡ false → taken_on s o n j ≡ []) apart far))
          ]

  all_owned : (d : ℕ) (at : Placed (d + 1)) → Takes (takings_in s at.journal) (received (log_of s at.journal)) → AllByRecursion (λ t. is_of_channel d 1 t.item ≡ true) (takings_in s at.journal)
  all_owned d at takes = all-with (λ t. OfChannel t.item) (λ t. Has (λ u. u ≡ t) (takings_in s at.journal)) (λ t. is_of_channel d 1 t.item ≡ true) one (takings_in s at.journal) takes.on_channels (has-each (takings_in s at.journal))
    where
      one : (t : Taking) → OfChannel t.item → Has (λ u. u ≡ t) (takings_in s at.journal) → is_of_channel d 1 t.item ≡ true
      one t (o, n, is) here =
          let owner = owner_before d at o n (found_one o n (takings_in s at.journal) (has-weaken (λ u. u ≡ t) (λ u. is_of_channel o n u.item ≡ true) (λ u same. subst (λ v. is_of_channel o n v.item ≡ true) (sym same) is) (takings_in s at.journal) here)) in
          subst (λ k. is_of_channel k 1 t.item ≡ true) (sym owner.0) (subst (λ k. is_of_channel o k t.item ≡ true) (sym owner.1) is)

  -- ---- a hop

  channel_accepts : (d : ℕ) → d ≤ hops → accepted_at s js d ≡ sent (log_at s js d)
  channel_accepts d less =
      of_domain s js run.linked run.is_run (λ j. along (accepted_by 1) (opened s j) (deeds_of s j)) d (accepted_in s d 1) (λ j. refl) at.journal at.found
      ∙ accepts_sent s at.journal at.known.is_run at.known.own (role_of packets hops most at.journal.line.domain) (role_is packets hops most at.journal.line.domain) at.known.fits
      ∙ ap sent (sym (log_is d at))
    where
      at : Placed d
      at = placed d less

  channel_is_taken : (d : ℕ) → d < hops → taken_at s js d ≡ received (log_at s js (d + 1))
  channel_is_taken d less =
      joined-one (taken_on s d 1) (λ j. j.line.domain == d + 1) js at.journal (differ-one (λ (j : DomainJournal). j.line.domain) (d + 1) js (domains_apart s js run.linked run.is_run)) (taken_nowhere d 1) at.found
      ∙ all_of_one d 1 (takings_in s at.journal) (all_owned d at takes)
      ∙ takes.contents
      ∙ ap received (sym (log_is (d + 1) at))
    where
      at : Placed (d + 1)
      at = placed (d + 1) (omega arith)

      takes : Takes (takings_in s at.journal) (received (log_of s at.journal))
      takes = takes_received s at.journal at.known.is_run at.known.own (role_of packets hops most at.journal.line.domain) (role_is packets hops most at.journal.line.domain) at.known.fits

  pub hop_fits : (d : ℕ) → d < hops → HopFitsLogs s js d
  hop_fits d less = record { accepted = channel_accepts d (omega arith); taken = channel_is_taken d less }
