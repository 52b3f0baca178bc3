-- What each deed does to the messages that are queued at each address, and which items are gone from it: one record for all deeds.
use Rattle.board_model.specs.Parts.{Came}
use Rattle.std.proofs.Common.{◌≡◌, ◌⊎◌, inl, inr, ℕ, ◌-◌, Bool, true, false, cond, List, [], ◌∷◌, ◌++◌, map, filter, find, flat_map, Option, Some, None, option_map, refl, sym, ap, ◌∙◌, subst, arith}
use Rattle.std.specs.Prelude.{◌==◌, ◌&&◌, ◌||◌, is_none, option_and_then}
use Rattle.std.specs.List.{AllByRecursion, list_any}
use Rattle.std.proofs.lemmas.Bool.{eqb-true, eq-eqb, and_parts}
use Rattle.std.proofs.lemmas.List.{append-nil}
use Rattle.mc_base.specs.Letter.{msg}
use Rattle.mc_base.specs.NameMap.{Names, learned, forgotten}
use Rattle.mc_base.specs.Reading.{Reading, announces, says}
use Rattle.mc_base.specs.declared.name.EndName.{EndName}
use Rattle.mc_base.specs.declared.fate.Fate.{Fate}
use Rattle.mc_base.specs.declared.fate.Fate.TheVariants.{Queued, Handed, NoEndpoint, OnChannel, Acted}
use Rattle.board_model.specs.State.{Item, ChannelEnd, Endpoint, Asked, name_of, channel_of, message_at, packet_at, has_address, Request, DomainState, is_at, has_address_of, receives_at, live_at, endpoint_of, one_waits, oldest_waiting, waits_at}
use Rattle.board_model.specs.Change.{item_queued, item_handed, name_found, names_known, handed_in, all_done, asks_for, changed, changed_all}
use Rattle.board_model.specs.TakenFrames.{Row, row, first_row, name_rows, message_rows, letter_rows, message_item}
use Rattle.board_model.specs.Deeds.{Deed, looks_back, puts_owed, looks_ahead, happens_by, after_deed, taken_change}
use Rattle.board_model.specs.Takings.{Taking, taking, is_message_taking, takings_by, asked_address}
use Rattle.mc_base.specs.declared.name.Local.{Local}
use Rattle.board_model.specs.Choice.{best}
use Rattle.board_model.specs.CallChanges.{at_live}
use Rattle.board_model.specs.MessageOrder.{is_handed, comes_now, waiting_first, item_said, is_queued, came_to, items_at, dropped_from, gone_from}
use Rattle.board_model.proofs.LaneRows.{by_rows}
use Rattle.board_model.proofs.MessageAlls.{all-filter}
use Rattle.board_model.proofs.OrderItems.{IsPast, IsNext, left_of, left_none, LastIs}
use Rattle.board_model.proofs.OrderQueues.{messages_at, messages_of, messages_none, queued_for, queued_item}
use Rattle.board_model.proofs.OrderRequests.{RequestsBy, kept, turned, handed, NoneBy, items_by, items_one, found_turns}
use Rattle.board_model.proofs.OrderSerials.{Differ, Below, Serials, given_by_all, serials_changes}
use Rattle.board_model.proofs.OrderSound.{sound_quiet, sound_named, Sound, FitAllSound, FitsEnd, sound_changes}
use Rattle.board_model.proofs.OrderTakings.{found_pends, taken_of, IsOld, all_old, none_taken, done_old, handed_takes, waiter_takes}

-- at most one item comes, and then none is gone
abbrev pub Comes : List Deed → Deed → List Item → List Item → Type 0
Comes before d came gone = (came ≡ []) ⊎ ((i : Item) × (came ≡ i ∷ []) × IsNext before i × (gone ≡ []) × IsPast (before ++ d ∷ []) i)

-- a taking of the best that is queued; or, where nothing is, of the item that comes, by the oldest that waits
pub record Hands (s : DomainState) (d : Deed) (t : Taking) : Type 0 where
  pub nothing_queued : queued_for s t.address ≡ []
  pub comes : comes_now t.address s d ≡ t.item ∷ []
  pub waits : waiting_first s t.address ≡ t.request

abbrev pub Takes : DomainState → Deed → Taking → Type 0
Takes s d t = (best (λ i. i.priority) (queued_for s t.address) ≡ Some t.item) ⊎ Hands s d t

pub record Does (room : ℕ) (before : List Deed) (s : DomainState) (d : Deed) : Type 0 where
  pub sound : Sound (after_deed s d)
  pub serials : Serials (room - given_by_all (happens_by s d)) (after_deed s d)
  pub queue : (b : ℕ) → queued_for (after_deed s d) b ≡ left_of (gone_from b s d) (queued_for s b) ++ came_to b s d
  pub comes : (b : ℕ) → Comes before d (came_to b s d) (gone_from b s d)
  pub gone : (b : ℕ) → AllByRecursion (IsPast (before ++ d ∷ [])) (gone_from b s d)
  pub takes_best : AllByRecursion (Takes s d) (filter is_message_taking (takings_by s d))
  pub requests : RequestsBy s (after_deed s d).requests (takings_by s d) (after_deed s d).requests_given

-- ---- a deed by which nothing is taken or dropped

pub gone_none : (b : ℕ) (s : DomainState) (d : Deed) → takings_by s d ≡ [] → dropped_from b s d ≡ [] → gone_from b s d ≡ []
gone_none b s d taken dropped = ap (λ ts. flat_map (items_at b) ts ++ dropped_from b s d) taken ∙ dropped

-- and nothing comes
pub still : (room : ℕ) (before : List Deed) (s : DomainState) (d : Deed) → Sound (after_deed s d) → Serials (room - given_by_all (happens_by s d)) (after_deed s d) → takings_by s d ≡ [] → ((b : ℕ) → dropped_from b s d ≡ []) → ((b : ℕ) → came_to b s d ≡ []) →
    ((b : ℕ) → queued_for (after_deed s d) b ≡ queued_for s b) → RequestsBy s (after_deed s d).requests [] (after_deed s d).requests_given → Does room before s d
still room before s d sound serials taken dropped came same requests = record {
  sound = sound;
  serials = serials;
  queue = λ b. same b ∙ (sym (left_none (queued_for s b)) ∙ (ap (λ g. left_of g (queued_for s b)) (sym (gone_none b s d taken (dropped b))) ∙ (sym (append-nil (left_of (gone_from b s d) (queued_for s b))) ∙ ap (λ c. left_of (gone_from b s d) (queued_for s b) ++ c) (sym (came b)))));
  comes = λ b. inl (came b);
  gone = λ b. subst (AllByRecursion (IsPast (before ++ d ∷ []))) (sym (gone_none b s d taken (dropped b))) tt;
  takes_best = subst (λ ts. AllByRecursion (Takes s d) (filter is_message_taking ts)) (sym taken) tt;
  requests = subst (λ ts. RequestsBy s (after_deed s d).requests ts (after_deed s d).requests_given) (sym taken) requests;
}

none_of : (s : DomainState) → taken_of s s.requests ≡ []
none_of s = none_taken s s.requests (all_old s)

no_room : (room : ℕ) (s : DomainState) → Serials room s → (t : DomainState) → t.requests ≡ s.requests → t.requests_given ≡ s.requests_given → Serials (room - 0) t
no_room room s serials t same given = record {
  differ = subst Differ (sym same) serials.differ;
  below = subst (λ n. Below n t.requests) (sym given) (subst (Below s.requests_given) (sym same) serials.below);
  small = omega (arith, serials.small, given);
}

module _ (room : ℕ) (before : List Deed) (s : DomainState) (sound : Sound s) (serials : Serials room s) where
  pub looks_back_does : (peer count : ℕ) → Does room before s (looks_back peer count)
  looks_back_does peer count = still room before s (looks_back peer count) (sound_changes s (happens_by s (looks_back peer count)) (tt, tt) sound) (serials_changes room s (happens_by s (looks_back peer count)) (omega arith) serials) (none_of s) (λ b. refl) (λ b. refl) (λ b. refl) (kept [] (λ k. refl))

  pub puts_owed_does : (peer : ℕ) (frame : List ℕ) → Does room before s (puts_owed peer frame)
  puts_owed_does peer frame = still room before s (puts_owed peer frame) (sound_changes s (happens_by s (puts_owed peer frame)) (tt, tt) sound) (serials_changes room s (happens_by s (puts_owed peer frame)) (omega arith) serials) (none_of s) (λ b. refl) (λ b. refl) (λ b. refl) (kept [] (λ k. refl))

  pub looks_ahead_does : (peer count : ℕ) → Does room before s (looks_ahead peer count)
  looks_ahead_does peer count = still room before s (looks_ahead peer count) (sound_changes s (happens_by s (looks_ahead peer count)) (tt, tt) sound) (serials_changes room s (happens_by s (looks_ahead peer count)) (omega arith) serials) (none_of s) (λ b. refl) (λ b. refl) (λ b. refl) (kept [] (λ k. refl))

-- ---- frames

pub both_none : (b : Bool) → cond {A = List Item} b [] [] ≡ []
both_none true = refl
both_none false = refl

found_any : (p : Request → Bool) (rs : List Request) (r : Request) → find p rs ≡ Some r → list_any p rs ≡ true
found_any p [] r found = absurd cc
found_any p (x ∷ xs) r found = go (p x) found (λ k. found_any p xs r k)
  where
    go : (b : Bool) → cond b (Some x) (find p xs) ≡ Some r → (find p xs ≡ Some r → list_any p xs ≡ true) → (b || list_any p xs) ≡ true
    go true k later = refl
    go false k later = later k

own_address : (a : ℕ) (es : List Endpoint) (e : Endpoint) → find (has_address_of a) es ≡ Some e → e.address ≡ a
own_address a [] e found = absurd cc
own_address a (x ∷ xs) e found = go (has_address_of a x) refl found (λ k. own_address a xs e k)
  where
    go : (b : Bool) → (x.address == a) ≡ b → cond b (Some x) (find (has_address_of a) xs) ≡ Some e → (find (has_address_of a) xs ≡ Some e → e.address ≡ a) → e.address ≡ a
    go true is k later = let same : x ≡ e = cc in subst (λ y. y.address ≡ a) same (eqb-true x.address a is)
    go false is k later = later k

-- a request that waits at an endpoint asks there
pub asked_there : (s : DomainState) (l : Local) (asked : Asked) (e : Endpoint) → receives_at l asked ≡ true → ((at : Local) → is_at at e ≡ true → live_at s at ≡ Some e) → e.local ≡ l → asked_address s asked ≡ e.address ∷ []
asked_there s l asked e waits find_it same = go asked waits
  where
    turned : (at : Local) → (at.node == l.node && at.port == l.port) ≡ true → is_at at e ≡ true
    turned at h = grind (arith, eqb-true, eq-eqb, h, same)

    go : (asked : Asked) → receives_at l asked ≡ true → asked_address s asked ≡ e.address ∷ []
    go (message_at at max) waits = ap (λ o. at_live o (λ f. f.address ∷ [])) (find_it at (turned at waits))
    go (packet_at at) waits = ap (λ o. at_live o (λ f. f.address ∷ [])) (find_it at (turned at waits))
    go (name_of n) waits = absurd cc
    go (channel_of n) waits = absurd cc

-- what the item is that a frame queues
abbrev pub queues : ℕ → ℕ → Came → Reading → Fate → List Item
queues b peer name rd word = cond (is_queued word) (item_said b peer name rd) []

-- the state after the frame is taken, and then after its row
abbrev pub after_row : DomainState → ℕ → Came → Row → DomainState
after_row s peer name r = changed_all (changed s (taken_change peer name)) r.happens

-- by a frame that says so, with this word
pub record RowHands (s : DomainState) (peer : ℕ) (name : Came) (rd : Reading) (word : Fate) (t : Taking) : Type 0 where
  pub nothing_queued : queued_for s t.address ≡ []
  pub comes : cond (is_handed word) (item_said t.address peer name rd) [] ≡ t.item ∷ []
  pub waits : waiting_first s t.address ≡ t.request

pub record RowDoes (before : List Deed) (s : DomainState) (peer : ℕ) (name : Came) (rd : Reading) (r : Row) : Type 0 where
  pub fits : FitAllSound (changed s (taken_change peer name)) r.happens
  pub gives_none : given_by_all r.happens ≡ 0
  pub taken : List Taking
  pub takings : taken_of s (after_row s peer name r).requests ≡ taken
  pub next : AllByRecursion (λ t. IsNext before t.item × (t.item.peer ≡ peer)) taken
  pub queue : (b : ℕ) → queued_for (after_row s peer name r) b ≡ queued_for s b ++ queues b peer name rd r.word
  pub comes : (b : ℕ) → (queues b peer name rd r.word ≡ []) ⊎ ((i : Item) × (queues b peer name rd r.word ≡ i ∷ []) × IsNext before i × (taken ≡ []) × (i.peer ≡ peer))
  pub hands : AllByRecursion (RowHands s peer name rd r.word) (filter is_message_taking taken)
  pub requests : RequestsBy s (after_row s peer name r).requests taken (after_row s peer name r).requests_given

module _ (before : List Deed) (s : DomainState) (sound : Sound s) (differ : Differ s.requests) (peer : ℕ) (name : Came) where
  pub quiet_row : (rd : Reading) (r : Row) → FitAllSound (changed s (taken_change peer name)) r.happens → given_by_all r.happens ≡ 0 → AllByRecursion (IsOld s) (after_row s peer name r).requests → ((b : ℕ) → queued_for (after_row s peer name r) b ≡ queued_for s b) → ((b : ℕ) → queues b peer name rd r.word ≡ []) →
      RequestsBy s (after_row s peer name r).requests [] (after_row s peer name r).requests_given → RowDoes before s peer name rd r
  quiet_row rd r fits gives old same none requests = record {
    fits = fits;
    gives_none = gives;
    taken = [];
    takings = none_taken s (after_row s peer name r).requests old;
    next = tt;
    queue = λ b. same b ∙ (sym (append-nil (queued_for s b)) ∙ ap (λ c. queued_for s b ++ c) (sym (none b)));
    comes = λ b. inl (none b);
    hands = tt;
    requests = requests;
  }

  -- a row by which nothing happens
  pub idle_row : (rd : Reading) (applies : Bool) (word : Fate) → ((b : ℕ) → queues b peer name rd word ≡ []) → RowDoes before s peer name rd (row applies word [])
  idle_row rd applies word none = quiet_row rd (row applies word []) tt refl (all_old s) (λ b. refl) none (kept [] (λ k. refl))

  -- ---- announcements

  name_row : (text : List ℕ) (address : ℕ) (there : Bool) (r : Row) → FitAllSound (changed s (taken_change peer name)) r.happens → given_by_all r.happens ≡ 0 → AllByRecursion (IsOld s) (after_row s peer name r).requests → ((b : ℕ) → queued_for (after_row s peer name r) b ≡ queued_for s b) →
      RequestsBy s (after_row s peer name r).requests [] (after_row s peer name r).requests_given → RowDoes before s peer name (announces text address there) r
  name_row text address there r fits gives old same requests = quiet_row (announces text address there) r fits gives old same (λ b. both_none (is_queued r.word)) requests

  abbrev learned_row : EndName → ℕ → Names → Row
  learned_row n address known = row true Acted (names_known peer (learned n address known) ∷ name_found n address ∷ [])

  abbrev forgotten_row : EndName → Names → Row
  forgotten_row n known = row true Acted (names_known peer (forgotten n known) ∷ [])

  pub named_rows : (text : List ℕ) (known : Names) (o : Option EndName) (address : ℕ) (there : Bool) → RowDoes before s peer name (announces text address there) (first_row (name_rows peer known o address there))
  named_rows text known None address there = name_row text address there (first_row (name_rows peer known None address there)) tt refl (all_old s) (λ b. refl) (kept [] (λ k. refl))
  named_rows text known (Some n) address true = by_rows (RowDoes before s peer name (announces text address true)) (name_rows peer known (Some n) address true) (
    (λ on. name_row text address true _ tt refl (all_old s) (λ b. refl) (kept [] (λ k. refl))),
    (λ off. ((λ on. name_row text address true _ tt refl (all_old s) (λ b. refl) (kept [] (λ k. refl))), (λ off2. name_row text address true (learned_row n address known) (tt, (tt, tt)) refl (done_old s (asks_for n) (has_address address) refl) (λ b. refl) (turned (all_done (asks_for n) (has_address address)) (found_turns n address))))),
  )
  named_rows text known (Some n) address false = by_rows (RowDoes before s peer name (announces text address false)) (name_rows peer known (Some n) address false) (
    (λ on. name_row text address false _ tt refl (all_old s) (λ b. refl) (kept [] (λ k. refl))),
    (λ off. ((λ on. name_row text address false _ tt refl (all_old s) (λ b. refl) (kept [] (λ k. refl))), (λ off2. name_row text address false (forgotten_row n known) (tt, tt) refl (all_old s) (λ b. refl) (kept [] (λ k. refl))))),
  )

  -- ---- an item that is handed to the oldest that waits

  module _ (i : Item) (next : IsNext before i) (its_peer : i.peer ≡ peer) (destination : ℕ) (e : Endpoint) (found : endpoint_of s destination ≡ Some e) where
    asks_here : (r : Request) → oldest_waiting s e.local ≡ Some r → asked_address s r.asked ≡ e.address ∷ []
    asks_here r is =
        let pends = and_parts (is_none r.outcome) (receives_at e.local r.asked) (found_pends e.local s.requests r is) in
        asked_there s e.local r.asked e pends.1 (λ at same. sound_named s sound at (has_address_of destination) e found same) refl

    waiter_next : (o : Option Request) → AllByRecursion (λ t. IsNext before t.item × (t.item.peer ≡ peer)) (waiter_takes s i o)
    waiter_next None = tt
    waiter_next (Some r) = go (asked_address s r.asked)
      where
        go : (addresses : List ℕ) → AllByRecursion (λ t. IsNext before t.item × (t.item.peer ≡ peer)) (map (λ a. taking (Some r.serial) a i) addresses)
        go [] = tt
        go (a ∷ rest) = ((next, its_peer), go rest)

    pub handed_row : (rd : Reading) (applies : Bool) → AllByRecursion (RowHands s peer name rd Handed) (filter is_message_taking (waiter_takes s i (oldest_waiting s e.local))) → RowDoes before s peer name rd (row applies Handed (item_handed destination i ∷ []))
    handed_row rd applies hands = record {
      fits = (tt, tt);
      gives_none = refl;
      taken = waiter_takes s i (oldest_waiting s e.local);
      takings = ap (λ o. taken_of s (handed_in o i s.requests)) found ∙ handed_takes s e i differ;
      next = waiter_next (oldest_waiting s e.local);
      queue = λ b. sym (append-nil (queued_for s b));
      comes = λ b. inl refl;
      hands = hands;
      requests = subst (λ o. RequestsBy s (handed_in o i s.requests) (waiter_takes s i (oldest_waiting s e.local)) s.requests_given) (sym found) (handed e.local i (waiter_takes s i (oldest_waiting s e.local)) none_waits one_waits_here);
    }
      where
        none_waits : find (waits_at e.local) s.requests ≡ None → NoneBy (waiter_takes s i (oldest_waiting s e.local))
        none_waits is k = ap (λ o. items_by k (waiter_takes s i o)) is

        one_waits_here : (r : Request) → find (waits_at e.local) s.requests ≡ Some r → (k : ℕ) → items_by k (waiter_takes s i (oldest_waiting s e.local)) ≡ cond (r.serial == k) (i ∷ []) []
        one_waits_here r is k = ap (λ o. items_by k (waiter_takes s i o)) is ∙ (ap (λ xs. items_by k (map (λ a. taking (Some r.serial) a i) xs)) (asks_here r is) ∙ items_one k r.serial e.address i)

  -- ---- messages

  module _ (source destination priority : ℕ) (content : List ℕ) (named : LastIs before peer name.names) where
    abbrev item : Item
    item = message_item peer name source priority content

    item_next : IsNext before item
    item_next = named

    abbrev says_it : Reading
    says_it = says source destination (msg priority content)

    waiter_hands : (e : Endpoint) → endpoint_of s destination ≡ Some e → (o : Option Request) → oldest_waiting s e.local ≡ o → AllByRecursion (RowHands s peer name says_it Handed) (waiter_takes s item o)
    waiter_hands e found None is = tt
    waiter_hands e found (Some r) is =
        let address : e.address ≡ destination = own_address destination s.endpoints e found in
        subst (λ xs. AllByRecursion (RowHands s peer name says_it Handed) (map (λ a. taking (Some r.serial) a item) xs)) (sym (asks_here item item_next refl destination e found r is ∙ ap (λ a. a ∷ []) address)) (
          record {
            nothing_queued = ap messages_of found ∙ (ap (messages_at e.channel) (sound_quiet s sound destination e found (found_any (waits_at e.local) s.requests r is)) ∙ messages_none e.channel);
            comes = ap (λ (b : Bool). cond b (item ∷ []) []) (eq-eqb destination destination refl);
            waits = ap (λ o. option_map (λ x. x.serial) (option_and_then (λ x. oldest_waiting s x.local) o)) found ∙ ap (λ o. option_map (λ x. x.serial) o) is;
          },
          tt,
        )

    message_handed : (e : Endpoint) → endpoint_of s destination ≡ Some e → (applies : Bool) → RowDoes before s peer name says_it (row applies Handed (item_handed destination item ∷ []))
    message_handed e found applies =
        handed_row item item_next refl destination e found says_it applies (all-filter (RowHands s peer name says_it Handed) is_message_taking (waiter_takes s item (oldest_waiting s e.local)) (waiter_hands e found (oldest_waiting s e.local) refl))

    abbrev taken_none : List Taking
    taken_none = []

    queued_row : (e : Endpoint) → endpoint_of s destination ≡ Some e → e.channel ≡ None → one_waits s e.local ≡ false → RowDoes before s peer name says_it (row true Queued (item_queued destination item ∷ []))
    queued_row e found free none = record {
      fits = ((λ f is. let same : e ≡ f = cc in ((λ waits. let w : one_waits s f.local ≡ false = subst (λ x. one_waits s x.local ≡ false) same none in absurd cc), subst (λ x. FitsEnd item x.channel) same (subst (FitsEnd item) (sym free) refl))), tt);
      gives_none = refl;
      taken = [];
      takings = none_of s;
      next = tt;
      queue = λ b. queued_item (changed s (taken_change peer name)) destination b item e found free ∙ shape b (destination == b);
      comes = λ b. one b (destination == b);
      hands = tt;
      requests = kept [] (λ k. refl);
    }
      where
        shape : (b : ℕ) (c : Bool) → cond c (queued_for s b ++ item ∷ []) (queued_for s b) ≡ queued_for s b ++ cond c (item ∷ []) []
        shape b true = refl
        shape b false = sym (append-nil (queued_for s b))

        one : (b : ℕ) (c : Bool) → (cond c (item ∷ []) [] ≡ []) ⊎ ((i : Item) × (cond c (item ∷ []) [] ≡ i ∷ []) × IsNext before i × (taken_none ≡ []) × (i.peer ≡ peer))
        one b true = inr (item, refl, item_next, refl, refl)
        one b false = inl refl

    pub messages_do : (o : Option Endpoint) → endpoint_of s destination ≡ o → RowDoes before s peer name says_it (first_row (letter_rows s peer name source destination o (msg priority content)))
    messages_do None found = idle_row says_it true NoEndpoint (λ b. refl)
    messages_do (Some e) found = at e.channel refl
      where
        at : (c : Option ChannelEnd) → e.channel ≡ c → RowDoes before s peer name says_it (first_row (message_rows s destination e c item))
        at (Some c) is = idle_row says_it true OnChannel (λ b. refl)
        at None free = by_rows (RowDoes before s peer name says_it) (message_rows s destination e None item) ((λ on. message_handed e found (one_waits s e.local)), (λ off. queued_row e found free off))
