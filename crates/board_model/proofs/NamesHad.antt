-- On a board of linked domains each announcement is truthful: the address that it gives a name is one that the name's domain gave an
-- endpoint which it made under the name. So an address that a lookup finds, or that a domain knows, is one that the name had.
use Rattle.std.proofs.Common.{◌≡◌, inl, inr, ℕ, ◌+◌, ◌≤◌, ◌<◌, ◌^◌, Bool, true, false, cond, List, [], ◌∷◌, ◌++◌, map, find, Option, Some, None, option_map, refl, sym, ap, ◌∙◌, subst, arith, append_assoc}
use Rattle.std.specs.Prelude.{◌==◌, ◌&&◌, Contains}
use Rattle.std.specs.List.{AllByRecursion, flat_map}
use Rattle.std.proofs.lemmas.Bool.{cond_both, eq-eqb, eqb-true, and_parts}
use Rattle.std.proofs.lemmas.List.Elements.{Contains-append_left, Contains-append_right, Contains-push_cases}
use Rattle.mc_base.specs.Limits.{first_address, creation_limit, last_domain, last_node}
use Rattle.mc_base.specs.FullName.{end_name, is_in_range, endpoint_named}
use Rattle.mc_base.specs.NameMap.{Names, address_in, has_name, rank}
use Rattle.mc_base.specs.Reading.{Reading, is_faulty, announces, says, brings, reading}
use Rattle.mc_base.specs.declared.name.EndName.{EndName}
use Rattle.mc_base.specs.declared.refusal.Refusal.{Refusal}
use Rattle.mc_base.proofs.FullNames.{small-in_range}
use Rattle.board_model.specs.declared.scenario.DomainLine.{DomainLine}
use Rattle.board_model.specs.declared.scenario.Scenario.{Scenario}
use Rattle.board_model.specs.Scenario.{neighbours}
use Rattle.board_model.specs.Grammar.{IsLawfulDomain}
use Rattle.board_model.specs.LinkedBoard.{IsLinkedBoard}
use Rattle.board_model.specs.DomainCall.{create_at}
use Rattle.board_model.specs.Journal.{PlainResult, tells}
use Rattle.board_model.specs.State.{Asked, name_of, channel_of, message_at, packet_at, Outcome, has_address, is_accepted, is_rejected, has_item, has_ended, Reply, DomainState, is_numbered, announcing, replying, owed_to}
use Rattle.board_model.specs.Change.{Change, changed, changed_all}
use Rattle.board_model.specs.Parts.{said_from, part_of}
use Rattle.board_model.specs.Answer.{local, result_by, Post, success_posts, refusal, answer_by}
use Rattle.board_model.specs.Traffic.{put_to}
use Rattle.board_model.specs.Board.{DomainJournal, journal_in, journal_of, IsBoardRun}
use Rattle.board_model.specs.Deeds.{Deed, looks_back, puts_owed, looks_ahead, takes, calls, happens_by, after_deed, after_deeds, MayDo, AllMayDo, along, EachDeed}
use Rattle.board_model.specs.JournalDeeds.{deeds_of, opened}
use Rattle.board_model.specs.Honesty.{KnowsHad}
use Rattle.board_model.specs.Replied.{announced_by, announced_in, addresses_made, addresses_had, WasHad, Returns, LookupsTellHad}
use Rattle.board_model.proofs.DeedJoins.{after-join, along-join}
use Rattle.board_model.proofs.DeedRuns.{puts_by}
use Rattle.board_model.proofs.ListsApart.{all-map}
use Rattle.board_model.proofs.MessageAlls.{all-append, all-found, all-weaken, found-passes}
use Rattle.board_model.proofs.WholeHas.{has-gives}
use Rattle.board_model.proofs.PartReadings.{coming-holds}
use Rattle.board_model.proofs.PartLetters.{each-frame}
use Rattle.board_model.proofs.HonestFrames.{Truthful, announcing_truthful, letter_truthful, replying_replies, reply_truthful}
use Rattle.board_model.proofs.HonestDeeds.{OfTaken, call_puts}
use Rattle.board_model.proofs.HonestBoard.{OnBoard, each_on_board, moment, taken_so}
use Rattle.board_model.proofs.KeptSends.{FitsDeed}
use Rattle.board_model.proofs.RepliedSound.{AllNamed, Settled, IsMade, KnowsSaid, OwesMade, Said}
use Rattle.board_model.proofs.RepliedDeeds.{there_if, Makes, HearsNamed, said_deed}
use Rattle.board_model.proofs.RepliedRuns.{said_opening, returns_so}

-- a domain keeps its number
number_changes : (s : DomainState) (cs : List Change) → (changed_all s cs).number ≡ s.number
number_changes s [] = refl
number_changes s (c ∷ cs) = number_changes (changed s c) cs

number_deeds : (s : DomainState) (ds : List Deed) → (after_deeds s ds).number ≡ s.number
number_deeds s [] = refl
number_deeds s (d ∷ ds) = number_deeds (after_deed s d) ds ∙ number_changes s (happens_by s d)

nothing_in : (a : ℕ) → Contains [] a → ⊥
nothing_in a has = let low = has.1 in omega arith

-- what one of some lists has, all of them together have
found_in : (f : DomainJournal → List ℕ) (p : DomainJournal → Bool) (js : List DomainJournal) (j : DomainJournal) → find p js ≡ Some j → (x : ℕ) → Contains (f j) x → Contains (flat_map f js) x
found_in f p [] j is x has = absurd cc
found_in f p (k ∷ ks) j is x has = go (p k) is (λ later. found_in f p ks j later x has)
  where
    go : (b : Bool) → cond b (Some k) (find p ks) ≡ Some j → (find p ks ≡ Some j → Contains (flat_map f ks) x) → Contains (f k ++ flat_map f ks) x
    go true here rest = let same : k ≡ j = cc in Contains-append_left (f k) (flat_map f ks) x (subst (λ i. Contains (f i) x) (sym same) has)
    go false later rest = Contains-append_right (f k) (flat_map f ks) x (rest later)

any_post : (xs : List Post) → AllByRecursion (λ (x : Post). Unit {0}) xs
any_post [] = tt
any_post (x ∷ xs) = (tt, any_post xs)

-- where any address may be known of a name, and any reply be said
abbrev any_name : ℕ → ℕ → Type 0
any_name n a = Unit {0}

abbrev any_reply : ℕ → PlainResult → Type 0
any_reply k r = Unit {0}

hears_any : (t : DomainState) (d : Deed) → HearsNamed any_name t d
hears_any t (takes q name frame word) = λ n a has. tt
hears_any t other = tt

module _ (s : Scenario) (js : List DomainJournal) (board : IsLinkedBoard s) (run : IsBoardRun s js) where
  -- a name had an address
  record Had (n : EndName) (a : ℕ) : Type 0 where
    ranged : is_in_range n ≡ true
    small : a < 2 ^ 32
    there : Contains (addresses_had s js (rank n)) a

  had_fits : (n : EndName) (a : ℕ) → Had n a → (is_in_range n ≡ true) × (a < 2 ^ 32)
  had_fits n a had = (had.ranged, had.small)

  abbrev On : DomainJournal → Type 0
  On j = OnBoard s js board run j

  -- ---- an endpoint that a domain makes has its address

  module _ (j : DomainJournal) (on : On j) where
    makes : (before after : List Deed) (d : Deed) → deeds_of s j ≡ before ++ (d ∷ after) → FitsDeed d → MayDo (after_deeds (opened s j) before) d → Makes Had (after_deeds (opened s j) before) d
    makes before after (calls node (create_at port) (tells address)) is fits may =
        let t : DomainState = after_deeds (opened s j) before in
        let d : Deed = calls node (create_at port) (tells address) in
        let r : ℕ = rank (end_name t.number (local node port)) in
        let number : t.number ≡ j.line.domain = number_deeds (opened s j) before in
        let low : j.line.domain ≤ last_domain = has-gives IsLawfulDomain (λ e. e ≡ j.line) (j.line.domain ≤ last_domain) (λ e lawful same. subst (λ (l : DomainLine). l.domain ≤ last_domain) same lawful.domain_fits) s.domains board.domains_lawful on.line in
        let node_fits : node ≤ last_node = fits.0 in
        let port_fits : port < 2 ^ 16 = fits.1 in
        let few : t.endpoints_given ≤ creation_limit = (moment s js board run j on before (d ∷ after) is).few in
        record {
          ranged = small-in_range (end_name t.number (local node port)) (record { domain = omega (arith, number, low); node = omega (arith, node_fits); port = omega (arith, port_fits) });
          small = small_answer t few (refusal t node (create_at port)) may;
          there = found_in (λ k. along (addresses_made r) (opened s k) (deeds_of s k)) (λ k. k.line.domain == j.line.domain) js j on.found address
              (subst (λ ds. Contains (along (addresses_made r) (opened s j) ds) address) (sym is)
              (subst (λ xs. Contains xs address) (sym (along-join (addresses_made r) (opened s j) before (d ∷ after)))
              (Contains-append_right (along (addresses_made r) (opened s j) before) (addresses_made r t d ++ along (addresses_made r) (after_deed t d) after) address
              (Contains-append_left (addresses_made r t d) (along (addresses_made r) (after_deed t d) after) address (there_if (r == r) address (eq-eqb r r refl))))));
        }
      where
        small_answer : (t : DomainState) → t.endpoints_given ≤ creation_limit → (o : Option Refusal) → tells address ≡ answer_by o (tells (first_address + t.endpoints_given)) → address < 2 ^ 32
        small_answer t few (Some w) answered = absurd cc
        small_answer t few None answered = let same : address ≡ first_address + t.endpoints_given = cc in omega (arith, few, same)
    makes before after other is fits may = tt

  abbrev AllMake : DomainState → List Deed → Type 0
  AllMake t [] = Unit {0}
  AllMake t (d ∷ ds) = Makes Had t d × AllMake (after_deed t d) ds

  all_make : (j : DomainJournal) → On j → (before ds : List Deed) → deeds_of s j ≡ before ++ ds → AllByRecursion FitsDeed ds → AllMayDo (after_deeds (opened s j) before) ds → AllMake (after_deeds (opened s j) before) ds
  all_make j on before [] is fits may = tt
  all_make j on before (d ∷ ds) is fits may = (
    makes j on before ds d is fits.0 may.0,
    subst (λ t. AllMake t ds) (after-join (opened s j) before (d ∷ []))
        (all_make j on (before ++ d ∷ []) ds (is ∙ sym (append_assoc before (d ∷ []) ds)) fits.1 (subst (λ t. AllMayDo t ds) (sym (after-join (opened s j) before (d ∷ []))) may.1)),
  )

  deeds_make : (j : DomainJournal) → On j → AllMake (opened s j) (deeds_of s j)
  deeds_make j on = all_make j on [] (deeds_of s j) refl on.deeds.fit on.told.run.may

  -- ---- so what is put is truthful

  abbrev TellsTruly : List ℕ → Type 0
  TellsTruly f = Truthful Had (reading f)

  abbrev Owing : DomainState → Type 0
  Owing t = Said Had any_name any_reply t

  each_reply : (rs : List Reply) → AllByRecursion TellsTruly (map replying rs)
  each_reply [] = tt
  each_reply (r ∷ rs) = (reply_truthful Had (reading (replying r)) (replying_replies r), each_reply rs)

  owed_truthful : (t : DomainState) → Owing t → (q : ℕ) (frame : List ℕ) → MayDo t (puts_owed q frame) → TellsTruly frame
  owed_truthful t said q frame may =
      let well = all-found (OwesMade Had any_name any_reply t.number) (is_numbered q) t.peers may.0 said.owed may.2 in
      first (owed_to t.number may.0) may.3
      (all-append TellsTruly (map (announcing t.number) may.0.announcements) (map replying may.0.replies)
      (all-map TellsTruly (announcing t.number) may.0.announcements (all-weaken (IsMade Had any_name any_reply t.number) (λ a. TellsTruly (announcing t.number a)) (λ a so. announcing_truthful Had had_fits t.number a so) may.0.announcements well))
      (each_reply may.0.replies))
    where
      first : (fs : List (List ℕ)) → fs ≡ frame ∷ may.1 → AllByRecursion TellsTruly fs → TellsTruly frame
      first [] e all = absurd cc
      first (f ∷ fs) e all = let same : f ≡ frame = cc in subst TellsTruly same all.0

  deed_truthful : (t : DomainState) → Owing t → (q : ℕ) (d : Deed) → MayDo t d → AllByRecursion TellsTruly (puts_by q t d)
  deed_truthful t said q (looks_back p n) may = tt
  deed_truthful t said q (looks_ahead p n) may = tt
  deed_truthful t said q (takes p name frame word) may = tt
  deed_truthful t said q (puts_owed p frame) may = cond_both (p == q) (frame ∷ []) [] (AllByRecursion TellsTruly) (λ k. (owed_truthful t said p frame may, tt)) (λ k. tt)
  deed_truthful t said q (calls node call a) may =
      call_puts t (Truthful Had) (λ w. tt) (λ x. Unit {0})
      (λ x is. each-frame (Truthful Had) x.source x.destination x.letter (letter_truthful Had x.source x.destination x.letter) (λ w. tt) (λ b c p. tt))
      (λ n c none. any_post (success_posts t n c)) q node call

  run_truthful : (q : ℕ) (t : DomainState) (ds : List Deed) → Owing t → AllMayDo t ds → AllMake t ds → AllByRecursion TellsTruly (along (puts_by q) t ds)
  run_truthful q t [] said may make = tt
  run_truthful q t (d ∷ ds) said may make = all-append TellsTruly (puts_by q t d) (along (puts_by q) (after_deed t d) ds) (deed_truthful t said q d may.0)
      (run_truthful q (after_deed t d) ds (said_deed Had any_name any_reply (λ n a has. tt) t said d may.0 make.0 (hears_any t d) (λ k r has. tt)) may.1 make.1)

  put_truthful : (a b : ℕ) → AllByRecursion TellsTruly (put_to b (journal_of a js))
  put_truthful a b = go (find (λ j. j.line.domain == a) js) refl
    where
      go : (o : Option DomainJournal) → find (λ j. j.line.domain == a) js ≡ o → AllByRecursion TellsTruly (put_to b (journal_in o))
      go None is = tt
      go (Some j) is =
          let on : On j = all-found On (λ k. k.line.domain == a) js j (each_on_board s js board run) is in
          subst (AllByRecursion TellsTruly) (sym (on.told.puts b)) (run_truthful b (opened s j) (deeds_of s j) (said_opening Had any_name any_reply j.line.domain j.line.nodes (neighbours s j.line)) on.told.run.may (deeds_make j on))

  -- ---- so what is taken is, and what is known of a name was had

  abbrev was_had : ℕ → ℕ → Type 0
  was_had n a = Contains (addresses_had s js n) a

  told_had : (q : ℕ) (r : Reading) → Truthful Had r → (n a : ℕ) → Contains (announced_in n q r) a → was_had n a
  told_had q (announces text x true) so n a has = by (endpoint_named text) refl has
    where
      by : (o : Option EndName) → endpoint_named text ≡ o → Contains (announced_by n q x o) a → was_had n a
      by None is none = absurd (nothing_in a none)
      by (Some m) is one = at (m.domain == q && rank m == n) refl one
        where
          at : (b : Bool) → (m.domain == q && rank m == n) ≡ b → Contains (cond b (x ∷ []) []) a → was_had n a
          at false on none = absurd (nothing_in a none)
          at true on here = elim (Contains-push_cases [] x a here) [
            | inl none ↦ absurd (nothing_in a none)
            | inr same ↦ subst (λ k. was_had n k) same (subst (λ k. was_had k x) (eqb-true (rank m) n (and_parts (m.domain == q) (rank m == n) on).1) (so m is).there)
          ]
  told_had q (announces text x false) so n a has = absurd (nothing_in a has)
  told_had q (is_faulty w) so n a has = absurd (nothing_in a has)
  told_had q (says b c l) so n a has = absurd (nothing_in a has)
  told_had q (brings b c p) so n a has = absurd (nothing_in a has)

  hears_had : (t : DomainState) (d : Deed) → OfTaken (λ q r. Truthful Had r) d → HearsNamed was_had t d
  hears_had t (takes q name frame word) so = λ n a has. told_had q (said_from t q frame) (coming-holds (Truthful Had) (λ b c k bytes. tt) (λ b c p. tt) (part_of t q) (reading frame) so) n a has
  hears_had t other so = tt

  -- ---- so a lookup finds an address that the name had

  result_had : (asked : Asked) (o : Option Outcome) → Settled was_had any_reply asked o → WasHad s js asked (result_by asked o)
  result_had (name_of n) None is = tt
  result_had (name_of n) (Some (has_address a)) is = is
  result_had (name_of n) (Some is_accepted) is = tt
  result_had (name_of n) (Some (is_rejected why)) is = tt
  result_had (name_of n) (Some (has_item i)) is = tt
  result_had (name_of n) (Some (has_ended word)) is = tt
  result_had (channel_of k) o is = tt
  result_had (message_at at max) o is = tt
  result_had (packet_at at) o is = tt

  each_had : (start : DomainState) (before ds : List Deed) → Said Had was_had any_reply (after_deeds start before) → AllMayDo (after_deeds start before) ds → AllMake (after_deeds start before) ds → AllByRecursion (OfTaken (λ q r. Truthful Had r)) ds →
      EachDeed (λ b d. Returns (WasHad s js) (after_deeds start b) d) before ds
  each_had start before [] said may make heard = tt
  each_had start before (d ∷ ds) said may make heard =
      let t : DomainState = after_deeds start before in
      let later : after_deeds start (before ++ d ∷ []) ≡ after_deed t d = after-join start before (d ∷ []) in (
        returns_so Had was_had any_reply (WasHad s js) result_had t said d may.0,
        each_had start (before ++ d ∷ []) ds
            (subst (Said Had was_had any_reply) (sym later) (said_deed Had was_had any_reply (λ n a had. had.there) t said d may.0 make.0 (hears_had t d heard.0) (λ k r has. tt)))
            (subst (λ u. AllMayDo u ds) (sym later) may.1) (subst (λ u. AllMake u ds) (sym later) make.1) heard.1,
      )

  tells_had : (j : DomainJournal) → On j → LookupsTellHad s js j
  tells_had j on = each_had (opened s j) [] (deeds_of s j) (said_opening Had was_had any_reply j.line.domain j.line.nodes (neighbours s j.line)) on.told.run.may (deeds_make j on) (taken_so s js board run (λ q r. Truthful Had r) put_truthful j on.found on.line on.told on.deeds)

  -- ---- and so is, at each moment, each address that is known of a name

  said_then : (t : DomainState) (before after : List Deed) → Said Had was_had any_reply t → AllMayDo t (before ++ after) → AllMake t (before ++ after) → AllByRecursion (OfTaken (λ q r. Truthful Had r)) (before ++ after) →
      Said Had was_had any_reply (after_deeds t before)
  said_then t [] after said may make heard = said
  said_then t (d ∷ ds) after said may make heard =
      said_then (after_deed t d) ds after (said_deed Had was_had any_reply (λ n a had. had.there) t said d may.0 make.0 (hears_had t d heard.0) (λ k r has. tt)) may.1 make.1 heard.1

  known_had : (n : EndName) (a : ℕ) (ks : Names) → AllNamed Had was_had any_reply ks → address_in n ks ≡ Some a → was_had (rank n) a
  known_had n a ks all is = go (find (has_name n) ks) refl is
    where
      go : (x : Option (EndName × ℕ)) → find (has_name n) ks ≡ x → option_map (λ (k : EndName × ℕ). k.1) x ≡ Some a → was_had (rank n) a
      go None found h = absurd cc
      go (Some k) found h =
          let same : k.1 ≡ a = cc in
          let named : rank k.0 ≡ rank n = eqb-true (rank k.0) (rank n) (found-passes (has_name n) ks k found) in
          subst (was_had (rank n)) same (subst (λ r. was_had r k.1) named (all-found (λ (j : EndName × ℕ). was_had (rank j.0) j.1) (has_name n) ks k all found))

  knows_had : (j : DomainJournal) → On j → KnowsHad s js j
  knows_had j on before after is q p there n a known =
      let start = said_opening Had was_had any_reply j.line.domain j.line.nodes (neighbours s j.line) in
      let heard = taken_so s js board run (λ q r. Truthful Had r) put_truthful j on.found on.line on.told on.deeds in
      let said = said_then (opened s j) before after start (subst (AllMayDo (opened s j)) is on.told.run.may) (subst (AllMake (opened s j)) is (deeds_make j on)) (subst (AllByRecursion (OfTaken (λ q r. Truthful Had r))) is heard) in
      known_had n a p.known (all-found (KnowsSaid Had was_had any_reply) (is_numbered q) (after_deeds (opened s j) before).peers p said.names there) known

  pub all_know_had : AllByRecursion (KnowsHad s js) js
  all_know_had = all-weaken On (KnowsHad s js) knows_had js (each_on_board s js board run)

  pub lookups_tell_had : AllByRecursion (LookupsTellHad s js) js
  lookups_tell_had = all-weaken On (LookupsTellHad s js) tells_had js (each_on_board s js board run)
