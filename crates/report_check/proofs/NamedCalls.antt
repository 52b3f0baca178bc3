-- Calls on a state in which frames have names: what a line asks and gives for labels is the same without them.
use Rattle.std.proofs.Common.{◌≡◌, ℕ, Bool, true, false, cond, List, [], ◌∷◌, map, find, Option, Some, None, refl, sym, ap, ap₂, ◌∙◌, eq-eqb}
use Rattle.std.specs.Prelude.{option_map, option_and_then}
use Rattle.mc_base.specs.declared.name.Local.{Local}
use Rattle.board_model.specs.declared.scenario.Call.{Call}
use Rattle.board_model.specs.declared.scenario.Call.TheVariants.{Test, Wait, WaitAny}
use Rattle.board_model.specs.declared.scenario.CallLine.{CallLine}
use Rattle.board_model.specs.Answer.{is_complete_at, unless_refused}
use Rattle.board_model.specs.DomainCall.{DomainCall, lookup_of, request_at, connect_from, packet_request_at}
use Rattle.board_model.specs.Labels.{Labelled, Labels, call_of, is_complete_label, labels_after, lending_label, packet_given, place_of_label, request_given, success_request, with_label, serial_of}
use Rattle.board_model.specs.Scenario.{label_in}
use Rattle.board_model.specs.State.{DomainState, Endpoint, has_address_of, has_serial, is_at, is_lent_as, place_of_packet, place_of_request}
use Rattle.board_model.proofs.ListsMapped.{find-alike, position-mapped}
use Rattle.board_model.proofs.MessageAlls.{found-passes}
use Rattle.board_model.proofs.RenamedCalls.{answer-renamed, complete-renamed, puts-renamed, refusal-renamed}
use Rattle.board_model.proofs.RenamedLabels.{given-renamed}
use Rattle.board_model.proofs.RenamedChanges.{live-renamed}
use Rattle.report_replay.specs.Effects.{HasOwnAddresses}
use Rattle.board_model.specs.Answer.{answer, puts, refusal}
use Rattle.board_model.specs.Deeds.{calls}
use Rattle.board_model.specs.Journal.{PlainAnswer}
use Rattle.board_model.specs.Unnamed.{no_names, unnamed, unnamed_end, unnamed_packet, unnamed_request}
use Rattle.mc_base.specs.declared.refusal.Refusal.{Refusal}
use Rattle.std.specs.Prelude.{is_some}
use Rattle.report_check.specs.NamedStates.{GoesOn, plain}
use Rattle.report_check.specs.declared.named_state.NamedState.{NamedState}
use Rattle.report_check.proofs.NamedLemmas.{goes-refused}
use Rattle.report_check.proofs.FitLines.{calls-same}

-- ---- endpoints have addresses of their own

own_among : (at : Local) (a : ℕ) (es : List Endpoint) (e : Endpoint) → a ≡ e.address → find (is_at at) es ≡ Some e → find (has_address_of a) (map unnamed_end es) ≡ Some (unnamed_end e) → find (has_address_of a) es ≡ Some e
own_among at a [] e is here there = absurd cc
own_among at a (x ∷ xs) e is here there = go (is_at at x) refl (has_address_of a x) refl here there (own_among at a xs e is)
  where
    go : (b : Bool) → is_at at x ≡ b → (c : Bool) → has_address_of a x ≡ c → cond b (Some x) (find (is_at at) xs) ≡ Some e → cond c (Some (unnamed_end x)) (find (has_address_of a) (map unnamed_end xs)) ≡ Some (unnamed_end e) → (find (is_at at) xs ≡ Some e → find (has_address_of a) (map unnamed_end xs) ≡ Some (unnamed_end e) → find (has_address_of a) xs ≡ Some e) → cond c (Some x) (find (has_address_of a) xs) ≡ Some e
    go true one true two p q rest = p
    go true one false two p q rest =
        let same : x ≡ e = cc in
        let yes : has_address_of a x ≡ true = eq-eqb x.address a (ap (λ (y : Endpoint). y.address) same ∙ sym is) in
        absurd (let no : true ≡ false = sym yes ∙ two in cc)
    go false one true two p q rest =
        let same : unnamed_end x ≡ unnamed_end e = cc in
        let yes : is_at at x ≡ true = ap (is_at at) same ∙ found-passes (is_at at) xs e p in
        absurd (let no : true ≡ false = sym yes ∙ one in cc)
    go false one false two p q rest = rest p q

pub own-named : (s : DomainState) → HasOwnAddresses (unnamed s) → HasOwnAddresses s
own-named s own at e live =
    own_among at e.address s.endpoints e refl live
    (own at (unnamed_end e) (live-renamed no_names s at ∙ ap (option_map unnamed_end) live))

-- ---- the call of a line

request_place : (s : DomainState) (o : Option ℕ) → option_and_then (place_of_request (unnamed s)) o ≡ option_and_then (place_of_request s) o
request_place s None = refl
request_place s (Some n) = position-mapped unnamed_request (has_serial n) (has_serial n) (λ r. refl) s.requests

packet_place : (s : DomainState) (o : Option ℕ) → option_and_then (place_of_packet (unnamed s)) o ≡ option_and_then (place_of_packet s) o
packet_place s None = refl
packet_place s (Some n) = position-mapped unnamed_packet (is_lent_as n) (is_lent_as n) (λ p. refl) s.lent

label_place : (ls : Labels) (s : DomainState) (label : List ℕ) → place_of_label ls.requests (unnamed s) label ≡ place_of_label ls.requests s label
label_place ls s label = request_place s (serial_of ls.requests label)

pub call-named : (ls : Labels) (s : DomainState) (c : Call) → call_of ls (unnamed s) c ≡ call_of ls s c
call-named ls s c = calls-same ls ls (unnamed s) s (label_place ls s) (λ label. packet_place s (serial_of ls.packets label)) c

-- ---- what it gives for labels

complete_named : (ls : Labels) (s : DomainState) (label : List ℕ) → is_complete_label ls (unnamed s) label ≡ is_complete_label ls s label
complete_named ls s label =
    ap (is_complete_at (unnamed s)) (label_place ls s label)
    ∙ complete-renamed no_names s (place_of_label ls.requests s label)

lending_named : (ls : Labels) (s : DomainState) (c : Call) (own : Option (List ℕ)) → lending_label ls (unnamed s) c own ≡ lending_label ls s c own
lending_named ls s (Test label) own = refl
lending_named ls s (Wait label limit) own = refl
lending_named ls s (WaitAny names limit) own = find-alike (is_complete_label ls (unnamed s)) (is_complete_label ls s) (complete_named ls s) (map (λ l. l.items) names.items)
lending_named ls s other own = refl

module _ (s : DomainState) (node : ℕ) where
  requests_named : (c : DomainCall) → success_request (unnamed s) c ≡ success_request s c
  requests_named (lookup_of name) = refl
  requests_named (request_at port max) = refl
  requests_named (connect_from port to kind) = refl
  requests_named (packet_request_at port) = refl
  requests_named other = refl

  request_named : (c : DomainCall) → request_given (unnamed s) node c ≡ request_given s node c
  request_named c = ap₂ (λ o p. unless_refused o None p) (refusal-renamed no_names s node c) (requests_named c)

pub labels-named : (ls : Labels) (s : DomainState) (line : CallLine) → labels_after ls (unnamed s) line ≡ labels_after ls s line
labels-named ls s line =
    let same = call-named ls s line.call in
    let requests = ap (request_given (unnamed s) line.node) same ∙ request_named s line.node (call_of ls s line.call) in
    let packets = ap (packet_given (unnamed s) line.node) same ∙ given-renamed no_names s line.node (call_of ls s line.call) in
    let lending = lending_named ls s line.call (label_in line) in
    ap₂ (λ (rs : List Labelled) (ps : List Labelled). record { requests = rs; packets = ps })
    (ap (with_label ls.requests (label_in line)) requests)
    (ap₂ (λ (l : Option (List ℕ)) (p : Option ℕ). with_label ls.packets l p) lending packets)

-- ---- the next call, in a state that is the one without names

module _ (s x : DomainState) (node : ℕ) (call c : DomainCall) (is : x ≡ unnamed s) (same : call ≡ c) where
  pub next-refusal : (word : Option Refusal) → word ≡ refusal x node c → word ≡ refusal s node call
  next-refusal word told = told ∙ (ap₂ (λ y k. refusal y node k) is (sym same) ∙ refusal-renamed no_names s node call)

  pub next-answer : answer s node call ≡ answer x node c
  next-answer = sym (answer-renamed no_names s node call) ∙ ap₂ (λ y k. answer y node k) (sym is) same

  pub next-puts : puts s node call ≡ puts x node c
  next-puts = sym (puts-renamed no_names s node call) ∙ ap₂ (λ y k. puts y node k) (sym is) same

pub none-is : {A : Type 0} (o : Option A) → is_some o ≡ false → o ≡ None
none-is None e = refl
none-is (Some x) e = absurd cc

pub refused-goes : (s : NamedState) (node : ℕ) (call : DomainCall) (o : Option Refusal) → o ≡ refusal (plain s) node call → is_some o ≡ true → (a : PlainAnswer) → GoesOn s s (calls node call a ∷ [])
refused-goes s node call None told some a = absurd cc
refused-goes s node call (Some word) told some a = goes-refused s node call word (sym told) a
