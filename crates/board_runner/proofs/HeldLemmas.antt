-- The ids that a runner holds go along with the labels of the run.
use Rattle.std.proofs.Common.{◌≡◌, ◌≢◌, ℕ, ◌+◌, ◌<◌, ◌≤◌, ◌^◌, Bool, true, false, ◌&&◌, cond, List, [], ◌∷◌, ◌++◌, length, map, Option, Some, None, position, option_map, option_and_then, option_to_list, refl, sym, ap, ap₂, ◌∙◌, subst, inl, inr, arith, true≢false}
use Rattle.std.specs.Prelude.{◌==◌, is_some, find, unwrap_or, IfSome}
use Rattle.std.specs.Option.{option_or}
use Rattle.std.specs.List.{AllByRecursion, AllZip, position_from}
use Rattle.std.specs.Str.{bytes_eq}
use Rattle.std.specs.Map.{update}
use Rattle.arrayvec.specs.ArrayVec.{ArrayVec}
use Rattle.std.proofs.lemmas.Bool.Decides.{eqb_tells}
use Rattle.std.proofs.lemmas.Slice.Eq.{bytes_eq-Decides}
use Rattle.std.proofs.lemmas.List.{map-append}
use Rattle.std.proofs.lemmas.List.Folds.{find-append}
use Rattle.std.proofs.lemmas.Iterator.Adapters.{position_from-zero}
use Rattle.mc_base.specs.Limits.{no_key}
use Rattle.mc_base.specs.declared.request.RequestId.{RequestId}
use Rattle.board_model.specs.declared.scenario.Call.{Call}
use Rattle.board_model.specs.declared.scenario.Call.TheVariants.{Create, Delete, Lookup, MsgSend, MsgRecv, MsgRecvI, MsgAvailable, Connect, OpenSend, OpenRecv, PktSend, PktRecv, PktRecvI, Release, SclSend, SclRecv, CloseSend, CloseRecv, Test, Wait, WaitAny, Cancel, Raw, Turn}
use Rattle.board_model.specs.DomainCall.{DomainCall, create_at, delete_at, lookup_of, send_from, receive_at, request_at, available_at, connect_from, open_at, packet_from, lend_at, packet_request_at, release_of, scalar_from, scalar_at, close_at, test_of, wait_for, cancel_of, raw_to, turn_alone}
use Rattle.board_model.specs.Lists.{without}
use Rattle.board_model.specs.State.{DomainState, place_of_request}
use Rattle.board_model.specs.Answer.{refusal, unless_refused}
use Rattle.board_model.specs.CallChanges.{effect}
use Rattle.board_model.specs.Labels.{Labelled, Labels, serial_of, place_of_label, call_of, request_given, with_label}
use Rattle.board_model.proofs.MessageAlls.{all-append, all-weaken, all-without}
use Rattle.board_model.proofs.SerialRequests.{serials, call_serials, call_gives, given_is, request_ended, success_ended, keyed_place, map-without}
use Rattle.domain_core.specs.Calls.{place_ended, success_ends, IsFresh}
use Rattle.domain_core.specs.DomainView.{place_of_id, has_id}
use Rattle.board_runner.specs.Held.{Held, Ids, PacketIds, id_for, id_or_none, no_id, told_for, TellsId}
use Rattle.board_runner.specs.Lines.{call_by}
use Rattle.board_runner.specs.Near.{RunDomain}
use Rattle.board_runner.specs.Stations.{IsKnown, HoldsIds, HoldsLabels}
use Rattle.board_runner.proofs.PacketPlaces.{packet_held}

-- ---- the call of a line

-- no key is that of no request
nowhere_from : (k : ℕ) (ids : List RequestId) → AllByRecursion (λ i. i.key ≢ no_key) ids → position_from (has_id no_id) k ids ≡ None
nowhere_from k [] all = refl
nowhere_from k (i ∷ is) all =
    ap (λ (b : Bool). cond (b && (i.serial == 0)) (Some k) (position_from (has_id no_id) (k + 1) is)) (other_key i all.0) ∙ nowhere_from (k + 1) is all.1
  where
    other_key : (i : RequestId) → i.key ≢ no_key → (i.key == no_key) ≡ false
    other_key i differs = elim (eqb_tells i.key no_key) [ inl same ↦ absurd (differs same.1) | inr not ↦ not.0 ]

nowhere : (ids : List RequestId) → AllByRecursion (λ i. i.key ≢ no_key) ids → position (has_id no_id) ids ≡ None
nowhere ids all = position_from-zero (has_id no_id) ids ∙ nowhere_from 0 ids all

-- the id that is held for a label stands where the label's request does
place_held : (d : RunDomain) (ids : Ids) (labels : List Labelled) (k : ℕ) (label : List ℕ) → HoldsIds d ids labels k → place_of_id d.ids (id_or_none ids label) ≡ place_of_label labels d.state label
place_held d ids labels k label h = go (id_for ids label) (h.told label) (h.known label)
  where
    go : (o : Option RequestId) → option_map (λ i. i.serial) o ≡ serial_of labels label → IfSome o (IsKnown d) → place_of_id d.ids (unwrap_or o no_id) ≡ place_of_label labels d.state label
    go None told known = nowhere d.ids h.keys ∙ ap (option_and_then (place_of_request d.state)) told
    go (Some id) told known = keyed_place (λ i. i.key) (λ i. i.serial) d.state labels label id.key id.serial d.ids h.serials known.only (sym told)

-- and so do those that are held for several
places_held : (d : RunDomain) (ids : Ids) (labels : List Labelled) (k : ℕ) (names : List (ArrayVec ℕ)) → HoldsIds d ids labels k → map (λ l. place_of_id d.ids (id_or_none ids l.items)) names ≡ map (λ l. place_of_label labels d.state l.items) names
places_held d ids labels k [] h = refl
places_held d ids labels k (l ∷ names) h = ap₂ (λ (p : Option ℕ) (ps : List (Option ℕ)). p ∷ ps) (place_held d ids labels k l.items h) (places_held d ids labels k names h)

pub call_is : (d : RunDomain) (ids : Ids) (packets : PacketIds) (labels : Labels) (k : ℕ) (call : Call) → HoldsLabels d ids packets labels k → call_by ids packets d.ids d.packets call ≡ call_of labels d.state call
call_is d ids packets labels k (Create port) h = refl
call_is d ids packets labels k (Delete port) h = refl
call_is d ids packets labels k (Lookup name) h = refl
call_is d ids packets labels k (MsgSend port to priority bytes) h = refl
call_is d ids packets labels k (MsgRecv port max) h = refl
call_is d ids packets labels k (MsgRecvI port max) h = refl
call_is d ids packets labels k (MsgAvailable port) h = refl
call_is d ids packets labels k (Connect port to kind) h = refl
call_is d ids packets labels k (OpenSend port kind) h = refl
call_is d ids packets labels k (OpenRecv port kind) h = refl
call_is d ids packets labels k (PktSend port bytes) h = refl
call_is d ids packets labels k (PktRecv port) h = refl
call_is d ids packets labels k (PktRecvI port) h = refl
call_is d ids packets labels k (Release label) h = ap release_of (packet_held d packets labels.packets k label.items h.packets)
call_is d ids packets labels k (SclSend port bits value) h = refl
call_is d ids packets labels k (SclRecv port bits) h = refl
call_is d ids packets labels k (CloseSend port) h = refl
call_is d ids packets labels k (CloseRecv port) h = refl
call_is d ids packets labels k (Test label) h = ap test_of (place_held d ids labels.requests k label.items h.requests)
call_is d ids packets labels k (Wait label limit) h = ap (λ p. wait_for (p ∷ []) false) (place_held d ids labels.requests k label.items h.requests)
call_is d ids packets labels k (WaitAny names limit) h = ap (λ ps. wait_for ps true) (places_held d ids labels.requests k names.items h.requests)
call_is d ids packets labels k (Cancel label) h = ap cancel_of (place_held d ids labels.requests k label.items h.requests)
call_is d ids packets labels k (Raw domain bytes) h = refl
call_is d ids packets labels k Turn h = refl

-- ---- the ids that stand

pub map-option : {A B : Type 0} (f : A → B) (o : Option A) → map f (option_to_list o) ≡ option_to_list (option_map f o)
map-option f None = refl
map-option f (Some x) = refl

same_ends : (s : DomainState) (call : DomainCall) → success_ends s call ≡ success_ended s call
same_ends s (create_at port) = refl
same_ends s (delete_at port) = refl
same_ends s (lookup_of name) = refl
same_ends s (send_from port to priority bytes) = refl
same_ends s (receive_at port max) = refl
same_ends s (request_at port max) = refl
same_ends s (available_at port) = refl
same_ends s (connect_from port to kind) = refl
same_ends s (open_at port side kind) = refl
same_ends s (packet_from port bytes) = refl
same_ends s (lend_at port) = refl
same_ends s (packet_request_at port) = refl
same_ends s (release_of place) = refl
same_ends s (scalar_from port bits value) = refl
same_ends s (scalar_at port bits) = refl
same_ends s (close_at port side) = refl
same_ends s (test_of p) = refl
same_ends s (wait_for requests says_place) = refl
same_ends s (cancel_of p) = refl
same_ends s (raw_to to bytes) = refl
same_ends s turn_alone = refl

same_ended : (s : DomainState) (node : ℕ) (call : DomainCall) → place_ended s node call ≡ request_ended s node call
same_ended s node call = ap (unless_refused (refusal s node call) None) (same_ends s call)

-- ids that were there and one that is given: what holds of them
pub all_ids : {A : Type 0} (P : A → Type 0) (p : Option ℕ) (ids more : List A) (given : Option A) → more ≡ without p ids ++ option_to_list given → AllByRecursion P ids → IfSome given P → AllByRecursion P more
all_ids {A} P p ids more given e all new = subst (AllByRecursion P) (sym e) (all-append P (without p ids) (option_to_list given) (all-without P p ids all) (one given new))
  where
    one : (o : Option A) → IfSome o P → AllByRecursion P (option_to_list o)
    one None h = tt
    one (Some i) h = (h, tt)

-- ---- the ids for labels

one_told : (label other : List ℕ) (n : ℕ) → option_map (λ (l : Labelled). l.serial) (find (λ l. bytes_eq l.label other) (record { label = label; serial = n } ∷ [])) ≡ cond (bytes_eq label other) (Some n) None
one_told label other n = go (bytes_eq label other)
  where
    go : (b : Bool) → option_map (λ (l : Labelled). l.serial) (cond b (Some (record { label = label; serial = n })) None) ≡ cond b (Some n) None
    go true = refl
    go false = refl

pub map-or : {A B : Type 0} (f : A → B) (x y : Option A) → option_map f (option_or x y) ≡ option_or (option_map f x) (option_map f y)
map-or f None y = refl
map-or f (Some x) y = refl

or-none : {A : Type 0} (x : Option A) → option_or x None ≡ x
or-none None = refl
or-none (Some x) = refl

-- the serials of the labels after a line
pub serial_after : {A : Type 0} (serial : A → ℕ) (labels : List Labelled) (label : Option (List ℕ)) (given : Option A) (other : List ℕ) →
    serial_of (with_label labels label (option_map serial given)) other ≡ option_or (serial_of labels other) (option_map serial (told_for label given other))
serial_after serial labels None given other = sym (or-none (serial_of labels other))
serial_after serial labels (Some label) None other = sym (or-none (serial_of labels other))
serial_after {A} serial labels (Some label) (Some id) other =
    ap (option_map (λ (l : Labelled). l.serial)) (find-append (λ (l : Labelled). bytes_eq l.label other) labels (record { label = label; serial = serial id } ∷ []))
    ∙ map-or (λ (l : Labelled). l.serial) (find (λ (l : Labelled). bytes_eq l.label other) labels) (find (λ (l : Labelled). bytes_eq l.label other) (record { label = label; serial = serial id } ∷ []))
    ∙ ap (option_or (serial_of labels other)) (one_told label other (serial id) ∙ told (bytes_eq label other))
  where
    told : (b : Bool) → cond b (Some (serial id)) None ≡ option_map serial (cond b (Some id) None)
    told true = refl
    told false = refl

-- what holds of the ids that were held and of one that is given
module _ {A : Type 0} (P : A → Type 0) where
  pub if_or : (x y : Option A) → IfSome x P → IfSome y P → IfSome (option_or x y) P
  if_or None y a b = b
  if_or (Some x) y a b = a

  pub if_told : (label : Option (List ℕ)) (given : Option A) (other : List ℕ) → IfSome given P → IfSome (told_for label given other) P
  if_told None given other h = tt
  if_told (Some label) None other h = tt
  if_told (Some label) (Some id) other h = go (bytes_eq label other)
    where
      go : (b : Bool) → IfSome (cond b (Some id) None) P
      go true = h
      go false = tt

pub if_weaker : {A : Type 0} (P Q : A → Type 0) (o : Option A) → ((i : A) → P i → Q i) → IfSome o P → IfSome o Q
if_weaker P Q None f h = tt
if_weaker P Q (Some i) f h = f i h

-- ---- an id more

-- bytes that are copied one by one are the same
pub copied : (xs ys : List ℕ) → AllZip (λ (x y : ℕ). y ≡ x) xs ys → ys ≡ xs
copied [] [] same = refl
copied [] (y ∷ ys) same = absurd same
copied (x ∷ xs) [] same = absurd same
copied (x ∷ xs) (y ∷ ys) same = ap₂ (λ (z : ℕ) (zs : List ℕ). z ∷ zs) same.0 (copied xs ys same.1)

same_label : {A : Type 0} (label other : List ℕ) (ids : Held A) → bytes_eq label other ≡ true → id_for ids label ≡ id_for ids other
same_label label other ids e = ap (id_for ids) ((bytes_eq-Decides label other).0 e)

-- one is held for the label already
pub tells_held : {A : Type 0} (ids more : Held A) (label : List ℕ) (id : A) → is_some (id_for ids label) ≡ true → more ≡ ids → TellsId (Some label) (Some id) ids more
tells_held {A} ids more label id some same other = ap (λ (m : Held A). id_for m other) same ∙ go (bytes_eq label other) (id_for ids other) (λ e. ap is_some (sym (same_label label other ids e)) ∙ some)
  where
    go : (b : Bool) (o : Option A) → (b ≡ true → is_some o ≡ true) → o ≡ option_or o (cond b (Some id) None)
    go b (Some i) h = refl
    go false None h = refl
    go true None h = absurd (true≢false (sym (h refl)))

-- none was held for it
pub tells_new : {A : Type 0} (ids more : Held A) (label : List ℕ) (id : A) → is_some (id_for ids label) ≡ false → ((other : List ℕ) → id_for more other ≡ update bytes_eq (id_for ids) label (Some id) other) → TellsId (Some label) (Some id) ids more
tells_new {A} ids more label id none updated other = updated other ∙ go (bytes_eq label other) (id_for ids other) (λ e. ap is_some (sym (same_label label other ids e)) ∙ none)
  where
    go : (b : Bool) (o : Option A) → (b ≡ true → is_some o ≡ false) → cond b (Some id) o ≡ option_or o (cond b (Some id) None)
    go false None h = refl
    go false (Some i) h = refl
    go true None h = refl
    go true (Some i) h = absurd (true≢false (h refl))

-- ---- a call

pub few_more : (new : Option ℕ) → length (option_to_list new) ≤ 1
few_more None = omega arith
few_more (Some m) = omega arith

-- the id that a call gives
record IsNext (s : DomainState) (more : ℕ) (i : RequestId) : Type 0 where
  serial : i.serial ≡ s.requests_given
  is_key : i.key ≢ no_key
  given : i.serial < more

next_id : (ids : List RequestId) (s : DomainState) (node : ℕ) (call : DomainCall) (more : ℕ) (id : Option RequestId) → option_map (λ i. i.serial) id ≡ request_given s node call → more ≡ s.requests_given + length (option_to_list (request_given s node call)) → IfSome id (IsFresh ids s) → IfSome id (IsNext s more)
next_id ids s node call more None gave counts fresh = tt
next_id ids s node call more (Some i) gave counts fresh =
    let is = given_is s node call i.serial (sym gave) in
    record { serial = is; is_key = fresh.is_key; given = omega (arith, counts, is, ap (λ (o : Option ℕ). length (option_to_list o)) gave) }

-- the ids that stand have the serials of the requests
serial_list : (s : DomainState) (node : ℕ) (call : DomainCall) (ids : List RequestId) (id : Option RequestId) → map (λ i. i.serial) ids ≡ serials s → option_map (λ i. i.serial) id ≡ request_given s node call →
    map (λ (i : RequestId). i.serial) (without (place_ended s node call) ids ++ option_to_list id) ≡ serials (effect s node call)
serial_list s node call ids id stand gave =
    let p = place_ended s node call in
    map-append (λ (i : RequestId). i.serial) (without p ids) (option_to_list id)
    ∙ ap₂ (λ (xs ys : List ℕ). xs ++ ys) (map-without (λ (i : RequestId). i.serial) p ids ∙ ap (without p) stand) (map-option (λ (i : RequestId). i.serial) id ∙ ap option_to_list gave)
    ∙ ap (λ (q : Option ℕ). without q (serials s) ++ option_to_list (request_given s node call)) (same_ended s node call)
    ∙ sym (call_serials s node call)

-- an id that was known is known after a call
still_known : (old new : RunDomain) (more : ℕ) (p : Option ℕ) (id : Option RequestId) → new.state.requests_given ≡ more → old.state.requests_given ≤ more →
    new.ids ≡ without p old.ids ++ option_to_list id → IfSome id (IsNext old.state more) → (i : RequestId) → IsKnown old i → IsKnown new i
still_known old new more p id now rises stays next i known =
    let lt = known.given in
    record {
      given = omega (arith, lt, now, rises);
      only = all_ids (λ j. j.serial ≡ i.serial → j.key ≡ i.key) p old.ids new.ids id stays known.only (if_weaker (IsNext old.state more) (λ j. j.serial ≡ i.serial → j.key ≡ i.key) id (λ j n e. let ns = n.serial in absurd (omega (arith, ns, e, lt))) next);
    }

-- and so is one that is given
newly_known : (old new : RunDomain) (more : ℕ) (p : Option ℕ) (id : Option RequestId) → new.state.requests_given ≡ more → new.ids ≡ without p old.ids ++ option_to_list id →
    AllByRecursion (λ i. i.serial < old.state.requests_given) old.ids → IfSome id (IsNext old.state more) → IfSome id (IsKnown new)
newly_known old new more p None now stays below next = tt
newly_known old new more p (Some i) now stays below next =
    let lt = next.given in
    let is = next.serial in
    record {
      given = omega (arith, lt, now);
      only = all_ids (λ j. j.serial ≡ i.serial → j.key ≡ i.key) p old.ids new.ids (Some i) stays (all-weaken (λ j. j.serial < old.state.requests_given) (λ j. j.serial ≡ i.serial → j.key ≡ i.key) (λ j less e. absurd (omega (arith, less, e, is))) old.ids below) (λ e. refl);
    }

-- what is held after a call, once the id that it gives is held for the label of its line
pub holds_after : (old new : RunDomain) (ids more : Ids) (labels : List Labelled) (k node : ℕ) (call : DomainCall) (label : Option (List ℕ)) (id : Option RequestId) → k + 1 < 2 ^ 64 → HoldsIds old ids labels k →
    new.state ≡ effect old.state node call → new.ids ≡ without (place_ended old.state node call) old.ids ++ option_to_list id → IfSome id (IsFresh old.ids old.state) → option_map (λ i. i.serial) id ≡ request_given old.state node call → TellsId label id ids more →
    HoldsIds new more (with_label labels label (request_given old.state node call)) (k + 1)
holds_after old new ids more labels k node call label id small h is stays fresh gave tells =
    let s = old.state in
    let total = (effect s node call).requests_given in
    let p = place_ended s node call in
    let before = h.few in
    let counts : total ≡ s.requests_given + length (option_to_list (request_given s node call)) = call_gives s node call (omega (arith, small, before)) in
    let rises : s.requests_given ≤ total = omega (arith, counts) in
    let now : new.state.requests_given ≡ total = ap (λ (x : DomainState). x.requests_given) is in
    let next : IfSome id (IsNext s total) = next_id old.ids s node call total id gave counts fresh in
    record {
      few = omega (arith, now, counts, before, few_more (request_given s node call));
      serials = ap (map (λ (i : RequestId). i.serial)) stays ∙ serial_list s node call old.ids id h.serials gave ∙ sym (ap serials is);
      given = subst (λ (n : ℕ). AllByRecursion (λ (i : RequestId). i.serial < n) new.ids) (sym now)
          (all_ids (λ i. i.serial < total) p old.ids new.ids id stays (all-weaken (λ (i : RequestId). i.serial < s.requests_given) (λ (i : RequestId). i.serial < total) (λ i lt. omega (arith, lt, rises)) old.ids h.given) (if_weaker (IsNext s total) (λ i. i.serial < total) id (λ i n. n.given) next));
      keys = all_ids (λ i. i.key ≢ no_key) p old.ids new.ids id stays h.keys (if_weaker (IsNext s total) (λ i. i.key ≢ no_key) id (λ i n. n.is_key) next);
      told = λ other. ap (option_map (λ (i : RequestId). i.serial)) (tells other) ∙ map-or (λ (i : RequestId). i.serial) (id_for ids other) (told_for label id other)
          ∙ ap (λ (x : Option ℕ). option_or x (option_map (λ (i : RequestId). i.serial) (told_for label id other))) (h.told other)
          ∙ sym (serial_after (λ (i : RequestId). i.serial) labels label id other) ∙ ap (λ (o : Option ℕ). serial_of (with_label labels label o) other) gave;
      known = λ other. subst (λ (o : Option RequestId). IfSome o (IsKnown new)) (sym (tells other)) (if_or (IsKnown new) (id_for ids other) (told_for label id other)
          (if_weaker (IsKnown old) (IsKnown new) (id_for ids other) (still_known old new total p id now rises stays next) (h.known other))
          (if_told (IsKnown new) label id other (newly_known old new total p id now stays h.given next)));
    }

-- the same ids of the same requests
known_same : (old new : RunDomain) → new.state ≡ old.state → new.ids ≡ old.ids → (i : RequestId) → IsKnown old i → IsKnown new i
known_same old new state ids i known =
    let lt = known.given in
    record { given = omega (arith, lt, ap (λ (x : DomainState). x.requests_given) state); only = subst (AllByRecursion (λ j. j.serial ≡ i.serial → j.key ≡ i.key)) (sym ids) known.only }

pub holds_same : (old new : RunDomain) (ids : Ids) (labels : List Labelled) (k : ℕ) → HoldsIds old ids labels k → new.state ≡ old.state → new.ids ≡ old.ids → HoldsIds new ids labels k
holds_same old new ids labels k h state same =
    let few = h.few in
    let given_same : old.state.requests_given ≡ new.state.requests_given = sym (ap (λ (x : DomainState). x.requests_given) state) in
    record {
      few = omega (arith, few, given_same);
      serials = ap (map (λ (i : RequestId). i.serial)) same ∙ h.serials ∙ sym (ap serials state);
      given = subst (λ (n : ℕ). AllByRecursion (λ (i : RequestId). i.serial < n) new.ids) given_same (subst (AllByRecursion (λ (i : RequestId). i.serial < old.state.requests_given)) (sym same) h.given);
      keys = subst (AllByRecursion (λ (i : RequestId). i.key ≢ no_key)) (sym same) h.keys;
      told = h.told;
      known = λ label. if_weaker (IsKnown old) (IsKnown new) (id_for ids label) (known_same old new state same) (h.known label);
    }
