-- Endpoints as the code keeps them, and as the definitions see them.
use Rattle.mc_base.specs.declared.channel.Kind.{Kind}
use Rattle.std.proofs.Common.{◌≡◌, ℕ, zero, suc, ◌+◌, ◌<◌, ◌≤◌, Bool, true, false, cond, List, [], ◌∷◌, ◌++◌, length, map, Option, Some, None, refl, sym, ap, ◌∙◌, arith, get_or}
use Rattle.std.specs.Prelude.{is_none, is_some, position, slice_set, slice_get, option_map, ◌&&◌, if◌then◌else◌}
use Rattle.std.specs.List.{position_from, remove, AllByRecursion}
use Rattle.std.proofs.lemmas.Iterator.Adapters.{position_from-zero}
use Rattle.board_model.specs.Lists.{changed_at, without_at}
use Rattle.board_model.specs.Answer.{has_channel}
use Rattle.board_model.specs.ChannelEnds.{is_closed, accepted_end}
use Rattle.board_model.specs.State as state
use Rattle.board_model.specs.State.{channel_in, ChannelEnd}
use Rattle.board_model.specs.Choice.{without_best}
use Rattle.buffer_book.specs.Book.{Book}
use Rattle.domain_parts.specs.declared.endpoints.Endpoint.{Endpoint}
use Rattle.packet_channel.specs.End.{end_of, kept_end, stage_of}
use Rattle.packet_channel.specs.declared.channel.Channel.{Channel}
use Rattle.domain_parts.specs.Records.{all_waiting, kept, waiting_in, with_best_taken}
use Rattle.domain_parts.specs.InBook.{endpoints_in}
use Rattle.domain_parts.specs.InTable.{HaveRoom, HaveAddresses}
use Rattle.domain_parts.proofs.Waits.{waiting-within}
use Rattle.message_queue.specs.Queue.{Waiting}

-- ---- places

position_from-map : {A B : Type 0} (f : A → B) (p : B → Bool) (i : ℕ) (xs : List A) → position_from (λ x. p (f x)) i xs ≡ position_from p i (map f xs)
position_from-map f p i [] = refl
position_from-map f p i (x ∷ xs) = ap (cond (p (f x)) (Some i)) (position_from-map f p (i + 1) xs)

pub position-map : {A B : Type 0} (f : A → B) (p : B → Bool) (xs : List A) → position (λ x. p (f x)) xs ≡ position p (map f xs)
position-map f p xs = position_from-zero (λ x. p (f x)) xs ∙ position_from-map f p 0 xs ∙ sym (position_from-zero p (map f xs))

-- what a look-up by index reads
pub slice_get-read : {X : Type 0} (xs : List X) (i : ℕ) (x : X) → i < length xs → x ≡ get_or xs i x → slice_get xs i ≡ Some x
slice_get-read [] i x lt read = absurd (omega arith)
slice_get-read (y ∷ ys) zero x lt read = ap (λ z. Some z) (sym read)
slice_get-read (y ∷ ys) (suc i) x lt read = slice_get-read ys i x (omega arith) read

-- the end of a channel at a place, as the definitions see it
pub channel-there : (b : Book) (es : List Endpoint) (i : ℕ) (c : Option Channel) → Some c ≡ option_map (λ (e : Endpoint). e.channel) (slice_get es i) → channel_in (slice_get (endpoints_in b es) i) ≡ option_map end_of c
channel-there b [] i c is = absurd cc
channel-there b (e ∷ es) zero c is = let same : c ≡ e.channel = cc in ap (option_map end_of) (sym same)
channel-there b (e ∷ es) (suc i) c is = channel-there b es i c is

pub some-end : (o : Option Channel) → is_some (option_map end_of o) ≡ is_some o
some-end None = refl
some-end (Some c) = refl

pub has-there : (b : Book) (es : List Endpoint) (i : ℕ) (has : Bool) → Some has ≡ option_map (λ (e : Endpoint). is_some e.channel) (slice_get es i) → has_channel (slice_get (endpoints_in b es) i) ≡ has
has-there b [] i has is = absurd cc
has-there b (e ∷ es) zero has is = let same : has ≡ is_some e.channel = cc in some-end e.channel ∙ sym same
has-there b (e ∷ es) (suc i) has is = has-there b es i has is

pub address-there : (b : Book) (es : List Endpoint) (i a : ℕ) → Some a ≡ option_map (λ (e : Endpoint). e.address) (slice_get es i) → Some a ≡ option_map (λ (e : state.Endpoint). e.address) (slice_get (endpoints_in b es) i)
address-there b [] i a is = absurd cc
address-there b (e ∷ es) zero a is = is
address-there b (e ∷ es) (suc i) a is = address-there b es i a is

-- an end is kept where its channel has not ended
pub kept-is : (c : Channel) → option_map end_of (kept c) ≡ kept_end c
kept-is c = go (is_closed (stage_of c.stage) && c.far_closed)
  where
    go : (b : Bool) → option_map end_of (if is_none (if b then None else Some (end_of c)) then None else Some c) ≡ (if b then None else Some (end_of c))
    go true = refl
    go false = refl

-- one that was accepted has not ended
pub kept-new : (c : Channel) {kind : Kind} {owner number peer address : ℕ} → end_of c ≡ accepted_end kind owner number peer address → kept c ≡ Some c
kept-new c is = go (is_closed (stage_of c.stage) && c.far_closed) (ap (λ (e : ChannelEnd). is_closed e.stage && e.far_closed) is)
  where
    go : (b : Bool) → b ≡ false → (if is_none (if b then None else Some (end_of c)) then None else Some c) ≡ Some c
    go false e = refl
    go true e = absurd cc

-- ---- one endpoint changed

pub changed-set : {X : Type 0} (g : X → X) (xs : List X) (i : ℕ) (x y : X) → i < length xs → x ≡ get_or xs i x → y ≡ g x → slice_set xs i y ≡ changed_at g i xs
changed-set g [] i x y lt read made = absurd (omega arith)
changed-set {X} g (z ∷ xs) zero x y lt read made = ap (λ (u : X). u ∷ xs) (made ∙ ap g read)
changed-set {X} g (z ∷ xs) (suc i) x y lt read made = ap (λ (us : List X). z ∷ us) (changed-set g xs i x y (omega arith) read made)

pub length-changed : {X : Type 0} (g : X → X) (i : ℕ) (xs : List X) → length (changed_at g i xs) ≡ length xs
length-changed g i [] = refl
length-changed g zero (x ∷ xs) = refl
length-changed g (suc i) (x ∷ xs) = ap suc (length-changed g i xs)

-- ---- room

pub room-at : (room : ℕ) (es : List Endpoint) (i : ℕ) (e : Endpoint) → HaveRoom room es → i < length es → e ≡ get_or es i e → e.queue.room ≡ room
room-at room [] i e rooms lt read = absurd (omega arith)
room-at room (x ∷ es) zero e rooms lt read = rw read rooms.0
room-at room (x ∷ es) (suc i) e rooms lt read = room-at room es i e rooms.1 (omega arith) read

pub queue-within : (es : List Endpoint) (i : ℕ) (e : Endpoint) → i < length es → e ≡ get_or es i e → length e.queue.waiting ≤ length (all_waiting es)
queue-within es i e lt read =
    let there : length (waiting_in (slice_get es i)) ≡ length e.queue.waiting = ap (λ (o : Option Endpoint). length (waiting_in o)) (slice_get-read es i e lt read) in
    omega (arith, there, waiting-within es i)

pub All-push : {X : Type 0} (P : X → Type 0) (xs : List X) (x : X) → AllByRecursion P xs → P x → AllByRecursion P (xs ++ x ∷ [])
All-push P [] x hs h = (h, tt)
All-push P (y ∷ xs) x hs h = (hs.0, All-push P xs x hs.1 h)

pub All-front : {X : Type 0} (P : X → Type 0) (xs : List X) (x : X) → AllByRecursion P (xs ++ x ∷ []) → AllByRecursion P xs × P x
All-front P [] x h = (tt, h.0)
All-front P (y ∷ xs) x h = let r = All-front P xs x h.1 in ((h.0, r.0), r.1)

pub All-read : {X : Type 0} (P : X → Type 0) (xs : List X) (i : ℕ) (x : X) → i < length xs → x ≡ get_or xs i x → AllByRecursion P xs → P x
All-read P [] i x lt read all = absurd (omega arith)
All-read P (y ∷ ys) zero x lt read all = rw read all.0
All-read P (y ∷ ys) (suc i) x lt read all = All-read P ys i x (omega arith) read all.1

pub address-at : (es : List Endpoint) (i : ℕ) (e : Endpoint) → HaveAddresses es → i < length es → e ≡ get_or es i e → 1024 ≤ e.address
address-at [] i e all lt read = absurd (omega arith)
address-at (x ∷ es) zero e all lt read = rw read all.0
address-at (x ∷ es) (suc i) e all lt read = address-at es i e all.1 (omega arith) read

-- ---- a queue that is empty loses nothing

taken-nothing : (ws : List Waiting) → ws ≡ [] → without_best (λ (w : Waiting). w.priority) ws ≡ ws
taken-nothing [] none = refl
taken-nothing (w ∷ ws) none = absurd (let e = ap length none in omega (arith, e))

pub taken-none : (es : List Endpoint) (i : ℕ) → waiting_in (slice_get es i) ≡ [] → changed_at with_best_taken i es ≡ es
taken-none [] i none = refl
taken-none (e ∷ es) zero none = ap (λ (ws : List Waiting). record e { queue = record e.queue { waiting = ws } } ∷ es) (taken-nothing e.queue.waiting none)
taken-none (e ∷ es) (suc i) none = ap (λ (xs : List Endpoint). e ∷ xs) (taken-none es i none)

-- ---- one endpoint less

pub removed : {X : Type 0} (xs : List X) (i : ℕ) → remove xs i ≡ without_at i xs
removed [] zero = refl
removed [] (suc i) = refl
removed (x ∷ xs) zero = refl
removed {X} (x ∷ xs) (suc i) = ap (λ (ys : List X). x ∷ ys) (removed xs i)

pub length-without : {X : Type 0} (i : ℕ) (xs : List X) → i < length xs → length (without_at i xs) + 1 ≡ length xs
length-without i [] lt = absurd (omega arith)
length-without zero (x ∷ xs) lt = omega arith
length-without (suc i) (x ∷ xs) lt = let rest = length-without i xs (omega arith) in omega (arith, rest)

pub All-without : {X : Type 0} (P : X → Type 0) (i : ℕ) (xs : List X) → AllByRecursion P xs → AllByRecursion P (without_at i xs)
All-without P i [] all = tt
All-without P zero (x ∷ xs) all = all.1
All-without P (suc i) (x ∷ xs) all = (all.0, All-without P i xs all.1)
