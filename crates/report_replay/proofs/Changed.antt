-- Lists with one item written, at the place where the first that passes a test is.
use Rattle.std.proofs.Common.{◌≡◌, ℕ, zero, suc, ◌<◌, ◌≤◌, ◌+◌, Bool, true, false, cond, ◌||◌, List, [], ◌∷◌, ◌++◌, length, map, take, drop, get_or, refl, ap, ◌∙◌, sym, arith, Option, Some, None, position, ltb}
use Rattle.std.specs.Prelude.{slice_set, slice_get, find, filter, option_and_then, option_map, not, ◌&&◌, is_some, nat_le, Result, Ok, Err, IsErr, OnOk}
use Rattle.std.specs.List.{position_or_len, list_any}
use Rattle.std.specs.Global.{Vec}
use Rattle.std.specs.Vec.{with_items}
use Rattle.std.proofs.lemmas.Bool.{le-leb}
use Rattle.std.proofs.lemmas.Bool.Decides.{nat_tests}
use Rattle.std.proofs.lemmas.List.{append-nil, drop_all, length-map, take_all, with_items_is}
use Rattle.std.proofs.lemmas.Option.{slice_get_read}
use Rattle.board_model.specs.Lists.{changed_at, changed, changed_first}
use Rattle.board_model.proofs.MessageLists.{changed-position, get-position}
use Rattle.board_model.specs.Parts.{part_in, part_of}
use Rattle.board_model.specs.State.{Item, Part, Peer, Endpoint, Request, waits_at, has_item, DomainState, is_numbered, is_owed_end, has_address_of, place_of_peer, place_of_address, peer_at, endpoint_of}
use Rattle.mc_base.specs.declared.name.Local.{Local}
use Rattle.mc_base.specs.declared.name.EndName.{EndName}
use Rattle.mc_base.specs.declared.refusal.Refusal.{Refusal}
use Rattle.mc_base.specs.NameMap.{Names, learned, address_in, names_limit}
use Rattle.board_model.specs.TakenFrames.{names_of}
use Rattle.board_model.specs.Change.{at_peer, at_address, done_with, handed_in, ended_in}
use Rattle.report_replay.specs.Replayed.{ended_at, lacks_room}

set_at : {A : Type 0} (f : A → A) (xs : List A) (i : ℕ) (x : A) → i < length xs → x ≡ get_or xs i x → slice_set xs i (f x) ≡ changed_at f i xs
set_at f [] i x lt read = absurd (omega arith)
set_at f (y ∷ ys) zero x lt read = ap (λ z. f z ∷ ys) read
set_at f (y ∷ ys) (suc i) x lt read = ap (λ zs. y ∷ zs) (set_at f ys i x (omega (arith, lt)) read)

within_if : (b : Bool) (j i n : ℕ) → ltb j n ≡ b → cond b (Some j) None ≡ Some i → i < n
within_if true j i n is e = let same : j ≡ i = cc in let lt : j < n = grind (arith, nat_tests) in omega (arith, same, lt)
within_if false j i n is e = absurd cc

pub place-within : {A : Type 0} (p : A → Bool) (xs : List A) (i : ℕ) → position p xs ≡ Some i → i < length xs
place-within p xs i e = within_if (ltb (position_or_len p xs) (length xs)) (position_or_len p xs) i (length xs) refl e

-- the first item that passes is written
pub first-set : {A : Type 0} (p : A → Bool) (f : A → A) (xs : List A) (i : ℕ) (x new : A) → position p xs ≡ Some i → x ≡ get_or xs i x → new ≡ f x → slice_set xs i new ≡ changed_first p f xs
first-set p f xs i x new at read made =
    ap (slice_set xs i) made
    ∙ set_at f xs i x (place-within p xs i at) read
    ∙ ap (λ o. changed f o xs) (sym at)
    ∙ changed-position p f xs

-- where none passes, the list stays
pub none-set : {A : Type 0} (p : A → Bool) (f : A → A) (xs : List A) → position p xs ≡ None → xs ≡ changed_first p f xs
none-set p f xs none = ap (λ o. changed f o xs) (sym none) ∙ changed-position p f xs

-- the first item that passes is found at its place
pub found-at : {A : Type 0} (p : A → Bool) (xs : List A) (i : ℕ) (x : A) → position p xs ≡ Some i → x ≡ get_or xs i x → find p xs ≡ Some x
found-at p xs i x at read =
    sym (get-position p xs)
    ∙ ap (option_and_then (λ j. slice_get xs j)) at
    ∙ slice_get_read xs (length xs) i x refl (place-within p xs i at) read

pub found-none : {A : Type 0} (p : A → Bool) (xs : List A) → position p xs ≡ None → find p xs ≡ None
found-none p xs none = sym (get-position p xs) ∙ ap (option_and_then (λ j. slice_get xs j)) none

-- a test of items that stand for others
pub any-map : {A B : Type 0} (p : B → Bool) (f : A → B) (xs : List A) → list_any p (map f xs) ≡ list_any (λ x. p (f x)) xs
any-map p f [] = refl
any-map p f (x ∷ xs) = ap (λ b. p (f x) || b) (any-map p f xs)

-- ---- lists of which each item is changed, from the front on

step_set : {A : Type 0} (f : A → A) (xs : List A) (i : ℕ) (x new : A) → i < length xs → x ≡ get_or (map f (take i xs) ++ drop i xs) i x → new ≡ f x → slice_set (map f (take i xs) ++ drop i xs) i new ≡ map f (take (suc i) xs) ++ drop (suc i) xs
step_set f [] i x new lt read made = absurd (omega arith)
step_set f (y ∷ ys) zero x new lt read made = ap (λ z. z ∷ ys) (made ∙ ap f read)
step_set f (y ∷ ys) (suc i) x new lt read made = ap (λ zs. f y ∷ zs) (step_set f ys i x new (omega arith) read made)

pub map-step : {A : Type 0} (f : A → A) (xs now : List A) (i : ℕ) (x new : A) → i < length xs → now ≡ map f (take i xs) ++ drop i xs → x ≡ get_or now i x → new ≡ f x → slice_set now i new ≡ map f (take (i + 1) xs) ++ drop (i + 1) xs
map-step f xs now i x new lt is read made =
    let next : suc i ≡ i + 1 = omega arith in
    ap (λ ys. slice_set ys i new) is
    ∙ step_set f xs i x new lt (read ∙ ap (λ ys. get_or ys i x) is) made
    ∙ ap (λ n. map f (take n xs) ++ drop n xs) next

pub map-done : {A : Type 0} (f : A → A) (xs now : List A) (i : ℕ) → length xs ≤ i → now ≡ map f (take i xs) ++ drop i xs → now ≡ map f xs
map-done f xs now i past is =
    is ∙ ap (λ ys. map f ys ++ drop i xs) (take_all i xs past) ∙ ap (λ ys. map f xs ++ ys) (drop_all i xs past) ∙ append-nil (map f xs)

-- the same written back into the list's own memory
pub all-written : {A : Type 0} (f : A → A) (v : Vec A) (old new : List A) → old ≡ v.items → new ≡ map f old → (with_items v new).items ≡ map f v.items
all-written f v old new was is =
    let made = is ∙ ap (map f) was in
    with_items_is v new (ap length made ∙ length-map v.items f ∙ sym v.ok.0) ∙ made

-- ---- in the state of a domain

pub peer-set : (now : DomainState) (n : ℕ) (f : Peer → Peer) (s : DomainState) (place : Option ℕ) (i : ℕ) (x new : Peer) → s ≡ now → place ≡ place_of_peer now n → place ≡ Some i → x ≡ get_or s.peers i x → new ≡ f x
    → record s { peers = slice_set s.peers i new } ≡ record now { peers = at_peer n f now.peers }
peer-set now n f s place i x new same was is read made =
    ap (λ (ps : List Peer). record s { peers = ps }) (first-set (is_numbered n) f s.peers i x new (ap (λ (t : DomainState). place_of_peer t n) same ∙ sym was ∙ is) read made)
    ∙ ap (λ (t : DomainState). record t { peers = at_peer n f t.peers }) same

pub no-peer : (now : DomainState) (n : ℕ) (f : Peer → Peer) (place : Option ℕ) → place ≡ place_of_peer now n → place ≡ None → now ≡ record now { peers = at_peer n f now.peers }
no-peer now n f place was is = ap (λ (ps : List Peer). record now { peers = ps }) (none-set (is_numbered n) f now.peers (sym was ∙ is))

-- of the addresses that ended those are kept of which some peer is still to be told
pub ends-kept : (m t : DomainState) (ended : List ℕ) (ps : List Peer) → ended ≡ filter (is_owed_end ps) m.ended → ps ≡ m.peers → m ≡ t → record m { ended = ended } ≡ record t { ended = filter (is_owed_end t.peers) t.ended }
ends-kept m t ended ps kept all same =
    ap (λ (rest : List ℕ). record m { ended = rest }) (kept ∙ ap (λ (qs : List Peer). filter (is_owed_end qs) m.ended) all)
    ∙ ap (λ (s : DomainState). record s { ended = filter (is_owed_end s.peers) s.ended }) same

-- the open part of the peer at a place, and of none
pub part-at : (now : DomainState) (n : ℕ) (s : DomainState) (place : Option ℕ) (i : ℕ) (x : Peer) (part : Option Part) → s ≡ now → place ≡ place_of_peer now n → place ≡ Some i → x ≡ get_or s.peers i x → x.part ≡ part → part_of now n ≡ part
part-at now n s place i x part same was is read has =
    ap (λ (t : DomainState). part_of t n) (sym same)
    ∙ ap part_in (found-at (is_numbered n) s.peers i x (ap (λ (t : DomainState). place_of_peer t n) same ∙ sym was ∙ is) read)
    ∙ has

pub part-nowhere : (now : DomainState) (n : ℕ) (place : Option ℕ) → place ≡ place_of_peer now n → place ≡ None → part_of now n ≡ None
part-nowhere now n place was is = ap part_in (found-none (is_numbered n) now.peers (sym was ∙ is))

-- the names that are known of the peer at a place
pub known-at : (now : DomainState) (n : ℕ) (s : DomainState) (place : Option ℕ) (i : ℕ) (x : Peer) (known : Names) → s ≡ now → place ≡ place_of_peer now n → place ≡ Some i → x ≡ get_or s.peers i x → x.known ≡ known → names_of (peer_at now n) ≡ known
known-at now n s place i x known same was is read has =
    ap (λ (t : DomainState). names_of (peer_at t n)) (sym same)
    ∙ ap names_of (found-at (is_numbered n) s.peers i x (ap (λ (t : DomainState). place_of_peer t n) same ∙ sym was ∙ is) read)
    ∙ has

pub endpoint-set : (now : DomainState) (a : ℕ) (f : Endpoint → Endpoint) (s : DomainState) (place : Option ℕ) (i : ℕ) (x new : Endpoint) → s ≡ now → place ≡ place_of_address now a → place ≡ Some i → x ≡ get_or s.endpoints i x → new ≡ f x
    → record s { endpoints = slice_set s.endpoints i new } ≡ record now { endpoints = at_address a f now.endpoints }
endpoint-set now a f s place i x new same was is read made =
    ap (λ (es : List Endpoint). record s { endpoints = es }) (first-set (has_address_of a) f s.endpoints i x new (ap (λ (t : DomainState). place_of_address t a) same ∙ sym was ∙ is) read made)
    ∙ ap (λ (t : DomainState). record t { endpoints = at_address a f t.endpoints }) same

pub no-endpoint : (now : DomainState) (a : ℕ) (f : Endpoint → Endpoint) (place : Option ℕ) → place ≡ place_of_address now a → place ≡ None → now ≡ record now { endpoints = at_address a f now.endpoints }
no-endpoint now a f place was is = ap (λ (es : List Endpoint). record now { endpoints = es }) (none-set (has_address_of a) f now.endpoints (sym was ∙ is))

-- the endpoint at a place
pub endpoint-at : (now : DomainState) (a : ℕ) (s : DomainState) (place : Option ℕ) (i : ℕ) (x : Endpoint) → s ≡ now → place ≡ place_of_address now a → place ≡ Some i → x ≡ get_or s.endpoints i x → endpoint_of now a ≡ Some x
endpoint-at now a s place i x same was is read =
    ap (λ (t : DomainState). endpoint_of t a) (sym same) ∙ found-at (has_address_of a) s.endpoints i x (ap (λ (t : DomainState). place_of_address t a) same ∙ sym was ∙ is) read

pub nowhere : (now : DomainState) (a : ℕ) (place : Option ℕ) → place ≡ place_of_address now a → place ≡ None → endpoint_of now a ≡ None
nowhere now a place was is = found-none (has_address_of a) now.endpoints (sym was ∙ is)

-- ---- requests

pub requests-mapped : (now : DomainState) (f : Request → Request) (s : DomainState) (v : Vec Request) (old new : List Request) (i : ℕ) → s ≡ now → v.items ≡ s.requests → old ≡ v.items → length old ≤ i → new ≡ map f (take i old) ++ drop i old
    → record s { requests = (with_items v new).items } ≡ record now { requests = map f now.requests }
requests-mapped now f s v old new i same view was past is =
    ap (λ (rs : List Request). record s { requests = rs }) (all-written f v old new was (map-done f old new i past is) ∙ ap (map f) view)
    ∙ ap (λ (t : DomainState). record t { requests = map f t.requests }) same

pub request-set : (now : DomainState) (p : Request → Bool) (f : Request → Request) (s : DomainState) (i : ℕ) (x new : Request) → s ≡ now → position p now.requests ≡ Some i → x ≡ get_or s.requests i x → new ≡ f x
    → record s { requests = slice_set s.requests i new } ≡ record now { requests = changed_first p f now.requests }
request-set now p f s i x new same at read made =
    ap (λ (rs : List Request). record s { requests = rs }) (first-set p f s.requests i x new (ap (λ (t : DomainState). position p t.requests) same ∙ at) read made)
    ∙ ap (λ (t : DomainState). record t { requests = changed_first p f t.requests }) same

-- receives wait at the endpoint that has the address
pub handed-at : (o : Option Endpoint) (at : Local) (i : Item) (rs : List Request) → option_map (λ (e : Endpoint). e.local) o ≡ Some at → changed_first (waits_at at) (done_with (has_item i)) rs ≡ handed_in o i rs
handed-at None at i rs is = absurd cc
handed-at (Some e) at i rs is = let same : at ≡ e.local = cc in ap (λ l. changed_first (waits_at l) (done_with (has_item i)) rs) same

pub handed-nowhere : (o : Option Endpoint) (i : Item) (rs : List Request) → option_map (λ (e : Endpoint). e.local) o ≡ None → rs ≡ handed_in o i rs
handed-nowhere None i rs is = refl
handed-nowhere (Some e) i rs is = absurd cc

pub ended-there : (o : Option Endpoint) (at : Local) (word : Refusal) (rs : List Request) → option_map (λ (e : Endpoint). e.local) o ≡ Some at → map (ended_at at word) rs ≡ ended_in o word rs
ended-there None at word rs is = absurd cc
ended-there (Some e) at word rs is = let same : at ≡ e.local = cc in ap (λ l. map (ended_at l word) rs) same

pub ended-nowhere : (o : Option Endpoint) (word : Refusal) (rs : List Request) → option_map (λ (e : Endpoint). e.local) o ≡ None → rs ≡ ended_in o word rs
ended-nowhere None word rs is = refl
ended-nowhere (Some e) word rs is = absurd cc

-- ---- names that are known

-- where there is room, a name is learned
pub learned-by : {E : Type 0} (name : EndName) (address : ℕ) (old new : Names) (result : Result (Unit {0}) E) → lacks_room name old ≡ false → (IsErr result → (address_in name old ≡ None) × (names_limit ≤ length old)) → (OnOk result (new ≡ learned name address old)) → new ≡ learned name address old
learned-by name address old new (Ok _) room full is = is
learned-by name address old new (Err _) room full is =
    let new_one = full refl in
    let none = ap (λ (o : Option ℕ). not (is_some o) && nat_le names_limit (length old)) new_one.0 ∙ le-leb names_limit (length old) new_one.1 in
    absurd cc
