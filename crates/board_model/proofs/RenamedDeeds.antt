-- Deeds whose frames have other names may be done where those with the old names may, and lead to the same state by its new names.
use Rattle.std.proofs.lemmas.Bool.{eqb-true}
use Rattle.board_model.specs.Parts.{Came, came_from, coming_from, said_from, held_by, held_if, named_so, names_before}
use Rattle.std.proofs.Common.{◌≡◌, ℕ, Bool, true, false, not, ◌&&◌, ◌||◌, cond, List, [], ◌∷◌, ◌++◌, map, Option, Some, None, refl, sym, ap, ap₂, ◌∙◌, subst}
use Rattle.std.specs.Prelude.{option_map, is_some, nat_le, ◌==◌, is_none, filter}
use Rattle.std.specs.List.{flat_map}
use Rattle.std.proofs.lemmas.List.{length-map, map-append}
use Rattle.mc_base.specs.Limits.{reply_limit}
use Rattle.mc_base.specs.FullName.{endpoint_named}
use Rattle.mc_base.specs.NameMap.{Names}
use Rattle.mc_base.specs.Letter.{PlainLetter, msg, connect, accept, reject, packet, scalar, send_close}
use Rattle.mc_base.specs.Reading.{Reading, is_faulty, announces, says, brings}
use Rattle.mc_base.specs.declared.name.EndName.{EndName}
use Rattle.mc_base.specs.declared.channel.Kind.{Kind}
use Rattle.mc_base.specs.declared.channel.Reason.TheVariants as reason
use Rattle.mc_base.specs.declared.fate.Fate.{Fate}
use Rattle.mc_base.specs.declared.fate.Fate.TheVariants as fate
use Rattle.board_model.specs.State.{Item, ChannelEnd, Endpoint, DomainState, endpoint_of, peer_at, HeldFrame, Part, holds_from, held_of}
use Rattle.board_model.specs.Change.{buffers_back, owed_put, frames_shown, frame_taken, changed_all, item_handed, item_queued}
use Rattle.board_model.specs.TakenFrames.{Row, row, last_row, first_row, names_of, name_rows, replies_to, rejecting, accepting, is_busy, connect_rows, item_of, message_rows, acting, rows_by, channel_rows, letter_rows, row_of, row_from}
use Rattle.board_model.specs.ChannelEnds.{EndRow, end_rows}
use Rattle.board_model.specs.CallChanges.{call_changes}
use Rattle.board_model.specs.Deeds.{Deed, looks_back, puts_owed, looks_ahead, takes, calls, MayDo, after_deed, after_deeds, AllMayDo, taken_change}
use Rattle.board_model.specs.Renamed.{renamed, renamed_end, renamed_item, renamed_held}
use Rattle.board_model.proofs.RenamedChanges.{renamed_change, renamed-all, endpoint-renamed, one_waits-renamed}
use Rattle.board_model.proofs.RenamedCalls.{answer-renamed, call-renamed}

-- a deed whose frame has another name
abbrev pub renamed_deed : (ℕ → Option ℕ → Option ℕ) → Deed → Deed
renamed_deed naming (takes peer name frame word) = takes peer (naming peer name) frame word
renamed_deed naming other = other

abbrev pub renamed_row : (ℕ → ℕ → ℕ) → Row → Row
renamed_row names r = record r { happens = map (renamed_change names) r.happens }

-- the names of an item's frames, and the name of a frame that is taken
module _ (names : ℕ → ℕ → ℕ) (naming : ℕ → Option ℕ → Option ℕ) (same : (peer : ℕ) (name : Option ℕ) → names peer (named_so name) ≡ named_so (naming peer name)) where
  -- ---- rows

  first_renamed : (rs : List Row) → first_row (map (renamed_row names) rs) ≡ renamed_row names (first_row rs)
  first_renamed [] = refl
  first_renamed (r ∷ []) = refl
  first_renamed (r ∷ q ∷ rs) = ap (cond r.applies (renamed_row names r)) (first_renamed (q ∷ rs)) ∙ go r.applies
    where
      go : (b : Bool) → cond b (renamed_row names r) (renamed_row names (first_row (q ∷ rs))) ≡ renamed_row names (cond b r (first_row (q ∷ rs)))
      go true = refl
      go false = refl

  names_renamed : (peer : ℕ) (known : Names) (o : Option EndName) (address : ℕ) (there : Bool) → first_row (name_rows peer known o address there) ≡ renamed_row names (first_row (name_rows peer known o address there))
  names_renamed peer known None address there = refl
  names_renamed peer known (Some n) address true = first_renamed (name_rows peer known (Some n) address true)
  names_renamed peer known (Some n) address false = first_renamed (name_rows peer known (Some n) address false)

  -- what a letter does names no frame
  acting_renamed : (at : ℕ) (left : Option ChannelEnd) (l : PlainLetter) → map (renamed_change names) (acting at left l) ≡ acting at left l
  acting_renamed at left (accept number) = refl
  acting_renamed at left (reject number reason) = refl
  acting_renamed at left (send_close number) = refl
  acting_renamed at left other = refl

  -- the frames that brought something, by their new names
  abbrev pub renamed_came : ℕ → Came → Came
  renamed_came peer c = record c { names = map (names peer) c.names }

  item_renamed : (peer : ℕ) (name : Came) (source : ℕ) (l : PlainLetter) → item_of peer (renamed_came peer name) source l ≡ renamed_item names (item_of peer name source l)
  item_renamed peer name source (msg priority content) = refl
  item_renamed peer name source (packet number content) = refl
  item_renamed peer name source (scalar number bits value) = refl
  item_renamed peer name source other = refl

  module _ (t : DomainState) where
    busy_renamed : (e : Endpoint) → is_busy (renamed names t) (renamed_end names e) ≡ is_busy t e
    busy_renamed e = ap₂ (λ n b. not (n == 0) || b) (length-map e.queue (renamed_item names)) (one_waits-renamed names t e.local)

    connects_renamed : (peer source destination : ℕ) (o : Option Endpoint) (number : ℕ) (kind : Kind) → connect_rows (renamed names t) peer source destination (option_map (renamed_end names) o) number kind ≡ map (renamed_row names) (connect_rows t peer source destination o number kind)
    connects_renamed peer source destination None number kind = refl
    connects_renamed peer source destination (Some e) number kind =
        ap
        (λ b.
        row (nat_le reply_limit (replies_to (peer_at t peer))) fate.RepliesFull []
        ∷ row (is_some e.channel) fate.Owed (rejecting peer source destination number reason.Connected)
        ∷ row b fate.Owed (rejecting peer source destination number reason.Busy)
        ∷ last_row fate.Owed (accepting peer source destination number kind))
        (busy_renamed e)

    messages_renamed : (destination : ℕ) (e : Endpoint) (c : Option ChannelEnd) (i : Item) → message_rows (renamed names t) destination (renamed_end names e) c (renamed_item names i) ≡ map (renamed_row names) (message_rows t destination e c i)
    messages_renamed destination e (Some c) i = refl
    messages_renamed destination e None i = ap (λ b. row b fate.Handed (item_handed destination (renamed_item names i) ∷ []) ∷ last_row fate.Queued (item_queued destination (renamed_item names i) ∷ [])) (one_waits-renamed names t e.local)

    by_renamed : (destination : ℕ) (e : Endpoint) (i : Item) (l : PlainLetter) (applies : Bool) (left : Option ChannelEnd) (word : Fate) → rows_by (renamed names t) destination (renamed_end names e) (renamed_item names i) l applies left word ≡ map (renamed_row names) (rows_by t destination e i l applies left word)
    by_renamed destination e i l applies left fate.Queued =
        ap (λ b. row (applies && b) fate.Handed (item_handed destination (renamed_item names i) ∷ []) ∷ row applies fate.Queued (item_queued destination (renamed_item names i) ∷ []) ∷ []) (one_waits-renamed names t e.local)
    by_renamed destination e i l applies left fate.Acted = ap (λ cs. row applies fate.Acted cs ∷ []) (sym (acting_renamed destination left l))
    by_renamed destination e i l applies left other = refl

    ends_renamed : (destination : ℕ) (e : Endpoint) (i : Item) (l : PlainLetter) (rs : List EndRow) →
        flat_map (λ (r : EndRow). rows_by (renamed names t) destination (renamed_end names e) (renamed_item names i) l r.applies r.leaves r.word) rs ≡ map (renamed_row names) (flat_map (λ (r : EndRow). rows_by t destination e i l r.applies r.leaves r.word) rs)
    ends_renamed destination e i l [] = refl
    ends_renamed destination e i l (r ∷ rs) =
        ap₂ (λ (xs ys : List Row). xs ++ ys) (by_renamed destination e i l r.applies r.leaves r.word) (ends_renamed destination e i l rs)
        ∙ sym (map-append (renamed_row names) (rows_by t destination e i l r.applies r.leaves r.word) (flat_map (λ (r : EndRow). rows_by t destination e i l r.applies r.leaves r.word) rs))

    channels_renamed : (peer destination : ℕ) (e : Endpoint) (c : Option ChannelEnd) (i : Item) (l : PlainLetter) → channel_rows (renamed names t) peer destination (renamed_end names e) c (renamed_item names i) l ≡ map (renamed_row names) (channel_rows t peer destination e c i l)
    channels_renamed peer destination e None i l = refl
    channels_renamed peer destination e (Some c) i l =
        ap (λ rs. rs ++ last_row fate.State []) (ends_renamed destination e i l (end_rows peer c l))
        ∙ sym (map-append (renamed_row names) (flat_map (λ (r : EndRow). rows_by t destination e i l r.applies r.leaves r.word) (end_rows peer c l)) (last_row fate.State []))

  module _ (t : DomainState) (peer : ℕ) (name : Came) where
    letters_renamed : (source destination : ℕ) (o : Option Endpoint) (l : PlainLetter) → letter_rows (renamed names t) peer (renamed_came peer name) source destination (option_map (renamed_end names) o) l ≡ map (renamed_row names) (letter_rows t peer name source destination o l)
    letters_renamed source destination o (connect number kind) = connects_renamed t peer source destination o number kind
    letters_renamed source destination None l = refl
    letters_renamed source destination (Some e) (msg priority content) =
        ap (λ i. message_rows (renamed names t) destination (renamed_end names e) e.channel i) (item_renamed peer name source (msg priority content)) ∙ messages_renamed t destination e e.channel (item_of peer name source (msg priority content))
    letters_renamed source destination (Some e) l =
        ap (λ i. channel_rows (renamed names t) peer destination (renamed_end names e) e.channel i l) (item_renamed peer name source l) ∙ channels_renamed t peer destination e e.channel (item_of peer name source l) l

    pub row-renamed : (r : Reading) → row_of (renamed names t) peer (renamed_came peer name) r ≡ renamed_row names (row_of t peer name r)
    row-renamed (is_faulty f) = refl
    row-renamed (announces text address there) = names_renamed peer (names_of (peer_at t peer)) (endpoint_named text) address there
    row-renamed (brings source destination q) = first_renamed (row (is_none name.part) fate.Stray [] ∷ last_row fate.Part [])
    row-renamed (says source destination l) =
        ap (λ o. first_row (letter_rows (renamed names t) peer (renamed_came peer name) source destination o l)) (endpoint-renamed names t destination)
        ∙ (ap first_row (letters_renamed source destination (endpoint_of t destination) l) ∙ first_renamed (letter_rows t peer name source destination (endpoint_of t destination) l))

  -- ---- deeds

  module _ (t : DomainState) where
    pub held_renamed : (peer : ℕ) (hs : List HeldFrame) → map (λ h. h.name) (filter (holds_from peer) (map (renamed_held names) hs)) ≡ map (names peer) (map (λ h. h.name) (filter (holds_from peer) hs))
    held_renamed peer [] = refl
    held_renamed peer (h ∷ hs) = go (h.peer == peer) refl (held_renamed peer hs)
      where
        go : (b : Bool) → (h.peer == peer) ≡ b → map (λ h. h.name) (filter (holds_from peer) (map (renamed_held names) hs)) ≡ map (names peer) (map (λ h. h.name) (filter (holds_from peer) hs)) →
            map (λ k. k.name) (cond b (renamed_held names h ∷ filter (holds_from peer) (map (renamed_held names) hs)) (filter (holds_from peer) (map (renamed_held names) hs))) ≡ map (names peer) (map (λ k. k.name) (cond b (h ∷ filter (holds_from peer) hs) (filter (holds_from peer) hs)))
        go true is rest = ap₂ (λ x xs. x ∷ xs) (ap (λ p. names p h.name) (eqb-true h.peer peer is)) rest
        go false is rest = rest

    before_renamed : (peer : ℕ) (joins : Bool) → names_before joins (held_of (renamed names t) peer) ≡ map (names peer) (names_before joins (held_of t peer))
    before_renamed peer true = held_renamed peer t.held
    before_renamed peer false = refl

    pub came-renamed : (peer : ℕ) (name : Option ℕ) (frame : List ℕ) → came_from (renamed names t) peer (naming peer name) frame ≡ renamed_came peer (came_from t peer name frame)
    came-renamed peer name frame =
        ap (λ ks. record { names = ks; part = (coming_from t peer frame).part })
        (ap₂ (λ xs k. xs ++ k ∷ []) (before_renamed peer (coming_from t peer frame).joins) (sym (same peer name))
        ∙ sym (map-append (names peer) (names_before (coming_from t peer frame).joins (held_of t peer)) (named_so name ∷ [])))

    kept_renamed : (peer : ℕ) (c : Came) → held_by (renamed_came peer c) ≡ map (names peer) (held_by c)
    kept_renamed peer c = go c.part
      where
        go : (o : Option Part) → held_if o (map (names peer) c.names) ≡ map (names peer) (held_if o c.names)
        go None = refl
        go (Some p) = refl

    pub from-renamed : (peer : ℕ) (name : Option ℕ) (frame : List ℕ) → row_from (renamed names t) peer (naming peer name) frame ≡ renamed_row names (row_from t peer name frame)
    from-renamed peer name frame = ap (λ c. row_of (renamed names t) peer c (said_from t peer frame)) (came-renamed peer name frame) ∙ row-renamed t peer (came_from t peer name frame) (said_from t peer frame)

    pub deed-renamed : (d : Deed) → renamed names (after_deed t d) ≡ after_deed (renamed names t) (renamed_deed naming d)
    deed-renamed (looks_back peer count) = renamed-all names t (buffers_back peer count ∷ [])
    deed-renamed (puts_owed peer frame) = renamed-all names t (owed_put peer ∷ [])
    deed-renamed (looks_ahead peer count) = renamed-all names t (frames_shown peer count ∷ [])
    deed-renamed (takes peer name frame word) =
        let c : Came = came_from t peer name frame in
        renamed-all names t (taken_change peer c ∷ (row_from t peer name frame).happens)
        ∙ (ap (λ (r : Row). changed_all (renamed names t) (frame_taken peer c.part (map (names peer) (held_by c)) ∷ r.happens)) (sym (from-renamed peer name frame))
        ∙ ap₂ (λ ks (d : Came). changed_all (renamed names t) (frame_taken peer d.part ks ∷ (row_from (renamed names t) peer (naming peer name) frame).happens)) (sym (kept_renamed peer c) ∙ ap held_by (sym (came-renamed peer name frame))) (sym (came-renamed peer name frame)))
    deed-renamed (calls node call a) = renamed-all names t (call_changes t node call) ∙ ap (changed_all (renamed names t)) (call-renamed names t node call)

    pub may-renamed : (d : Deed) → MayDo t d → MayDo (renamed names t) (renamed_deed naming d)
    may-renamed (looks_back peer count) may = tt
    may-renamed (puts_owed peer frame) may = may
    may-renamed (looks_ahead peer count) may = tt
    may-renamed (takes peer name frame word) may = ap (λ (r : Row). r.word) (from-renamed peer name frame) ∙ may
    may-renamed (calls node call a) may = may ∙ sym (answer-renamed names t node call)

    renamed_may : (d : Deed) → MayDo (renamed names t) (renamed_deed naming d) → MayDo t d
    renamed_may (looks_back peer count) may = tt
    renamed_may (puts_owed peer frame) may = may
    renamed_may (looks_ahead peer count) may = tt
    renamed_may (takes peer name frame word) may = ap (λ (r : Row). r.word) (sym (from-renamed peer name frame)) ∙ may
    renamed_may (calls node call a) may = may ∙ answer-renamed names t node call

  pub deeds-renamed : (t : DomainState) (ds : List Deed) → renamed names (after_deeds t ds) ≡ after_deeds (renamed names t) (map (renamed_deed naming) ds)
  deeds-renamed t [] = refl
  deeds-renamed t (d ∷ ds) = deeds-renamed (after_deed t d) ds ∙ ap (λ s. after_deeds s (map (renamed_deed naming) ds)) (deed-renamed t d)

  pub all-renamed : (t : DomainState) (ds : List Deed) → AllMayDo t ds → AllMayDo (renamed names t) (map (renamed_deed naming) ds)
  all-renamed t [] may = tt
  all-renamed t (d ∷ ds) may = (may-renamed t d may.0, subst (λ s. AllMayDo s (map (renamed_deed naming) ds)) (deed-renamed t d) (all-renamed (after_deed t d) ds may.1))

  pub renamed-may : (t : DomainState) (ds : List Deed) → AllMayDo (renamed names t) (map (renamed_deed naming) ds) → AllMayDo t ds
  renamed-may t [] may = tt
  renamed-may t (d ∷ ds) may = (renamed_may t d may.0, renamed-may (after_deed t d) ds (subst (λ s. AllMayDo s (map (renamed_deed naming) ds)) (sym (deed-renamed t d)) may.1))
