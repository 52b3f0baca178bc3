-- The words of data: where the receiver's end of a channel is there, each item that comes is lost, handed or queued.
use Rattle.board_model.specs.Parts.{Came, came_from, said_from}
use Rattle.std.proofs.Common.{◌≡◌, ℕ, Bool, true, false, cond, List, [], ◌∷◌, ◌++◌, map, Option, Some, None, refl, sym, ap, ◌∙◌, subst}
use Rattle.std.specs.Prelude.{◌==◌}
use Rattle.std.specs.List.{flat_map}
use Rattle.std.proofs.lemmas.Bool.{eqb-true}
use Rattle.mc_base.specs.Letter.{PlainLetter, packet, scalar}
use Rattle.mc_base.specs.Reading.{Reading, is_faulty, announces, says, brings}
use Rattle.mc_base.specs.declared.channel.Kind.{Kind}
use Rattle.mc_base.specs.declared.channel.Kind.TheVariants.{Packet, Scalar}
use Rattle.mc_base.specs.declared.fate.Fate.{Fate}
use Rattle.mc_base.specs.declared.fate.Fate.TheVariants as fate
use Rattle.board_model.specs.Channels.{data_said, arrives, words_by}
use Rattle.board_model.specs.ChannelEnds.{data_rows, hears_from, same_kind}
use Rattle.board_model.specs.Deeds.{Deed, looks_back, puts_owed, looks_ahead, takes, calls, MayDo}
use Rattle.board_model.specs.State.{Item, ChannelEnd, Endpoint, DomainState, endpoint_of}
use Rattle.board_model.specs.TakenFrames.{row_of, last_row, rows_by, item_of}
use Rattle.board_model.proofs.ChannelWords.{Way, not_begun, goes_to, is_over, Sent, sent_by, Follows, InOrder, letters_of}
use Rattle.board_model.proofs.DeedRuns.{says_by}
use Rattle.board_model.proofs.Hearing.{AllArrive, Heard, heard, Lists, HeardAt, Hearing, unheard, refused, heard_at}
use Rattle.board_model.proofs.HearingFrames.{RepliesRead}
use Rattle.board_model.proofs.HearingLetters.{going, who_hears, three_of, is_kind, row_at_end, row_at_channel, data_row, packet_row, scalar_row}
use Rattle.board_model.proofs.LaneRows.{by_rows}

module _ (read : RepliesRead) (o n : ℕ) (s : DomainState) (w : Way) (h : Lists) (b : ℕ) (have : HeardAt b w h (heard o n (endpoint_of s b))) where
  module _ (key : Came) (src dst : ℕ) where
    -- the word of an item of the channel
    data_arrives : (k : Kind) (i : Item) (a : ℕ) → dst ≡ a → goes_to a k ≡ w → arrives (data_row read o n s key src dst h k i (endpoint_of s dst)).word ≡ true
    data_arrives k i a at way = go (heard o n (endpoint_of s b)) refl (subst (λ v. HeardAt b v h (heard o n (endpoint_of s b))) (sym way) have)
      where
        rows_at : (e : Endpoint) (c : ChannelEnd) → hears_from o n c ≡ true → same_kind c.kind k ≡ true → c.far_closed ≡ false → arrives (row_at_end read o n s key src dst h k i e c).word ≡ true
        rows_at e c it of_kind far = by_rows (λ r. arrives r.word ≡ true) (flat_map (λ r. rows_by s dst e i (packet n []) r.applies r.leaves r.word) (data_rows o n k c) ++ last_row fate.State []) (
          (λ on. refl),
          (λ off. ((λ on. refl), (λ off2. ((λ on. refl), (λ off3. let never = sym (three_of (hears_from o n c) (same_kind c.kind k) c.far_closed it of_kind far) ∙ off3 in absurd cc))))),
        )

        go : (y : Option Heard) → heard o n (endpoint_of s b) ≡ y → HeardAt b (goes_to a k) h y → arrives (data_row read o n s key src dst h k i (endpoint_of s dst)).word ≡ true
        go None is past = let e = past.way in absurd cc
        go (Some y) is live =
            let g = going y.end.far_closed a k b y.end.kind live.way in
            let f = who_hears o n (endpoint_of s b) y is in
            let here : endpoint_of s dst ≡ Some f.endpoint = ap (endpoint_of s) (at ∙ g.same_address) ∙ f.found in
            subst (λ z. arrives (data_row read o n s key src dst h k i z).word ≡ true) (sym here)
            (subst (λ z. arrives (row_at_channel read o n s key src dst h k i f.endpoint z).word ≡ true) (sym f.channel)
            (rows_at f.endpoint y.end f.it_hears (is_kind k y.end.kind g.same_kind) g.open_far))

    abbrev sent_so : PlainLetter → Sent
    sent_so l = record { source = src; destination = dst; letter = l }

    packet_arrives : (content : List ℕ) (v : Way) → v ≡ w → Follows v (sent_so (packet n content)) → arrives (row_of s o key (says src dst (packet n content))).word ≡ true
    packet_arrives content not_begun is follows = absurd follows
    packet_arrives content (goes_to a k) is follows = subst (λ r. arrives r.word ≡ true) (packet_row read o n s key src dst h content (endpoint_of s dst)) (data_arrives Packet (item_of o key src (packet n content)) a follows.0 (sym (ap (goes_to a) follows.1) ∙ is))
    packet_arrives content (is_over a) is follows = absurd follows

    scalar_arrives : (bits : _) (value : ℕ) (v : Way) → v ≡ w → Follows v (sent_so (scalar n bits value)) → arrives (row_of s o key (says src dst (scalar n bits value))).word ≡ true
    scalar_arrives bits value not_begun is follows = absurd follows
    scalar_arrives bits value (goes_to a k) is follows = subst (λ r. arrives r.word ≡ true) (scalar_row read o n s key src dst h bits value (endpoint_of s dst)) (data_arrives Scalar (item_of o key src (scalar n bits value)) a follows.0 (sym (ap (goes_to a) follows.1) ∙ is))
    scalar_arrives bits value (is_over a) is follows = absurd follows

    -- of a letter that carries an item of some channel
    by_number : (f : ℕ → PlainLetter) (content : List ℕ) (m : ℕ) (word : Fate) → ((v : Way) → v ≡ w → Follows v (sent_so (f n)) → arrives (row_of s o key (says src dst (f n))).word ≡ true) → (row_of s o key (says src dst (f m))).word ≡ word →
        InOrder w (cond (m == n) (sent_so (f m) ∷ []) [] ++ []) → AllArrive (map (λ c. word) (cond (m == n) (content ∷ []) []))
    by_number f content m word arrives_so is order = go (m == n) refl order
      where
        go : (c : Bool) → (m == n) ≡ c → InOrder w (cond c (sent_so (f m) ∷ []) [] ++ []) → AllArrive (map (λ k. word) (cond c (content ∷ []) []))
        go false same ordered = tt
        go true same ordered =
            let number : m ≡ n = eqb-true m n same in
            (subst (λ x. arrives x ≡ true) is (subst (λ k. arrives (row_of s o key (says src dst (f k))).word ≡ true) (sym number) (arrives_so w refl (subst (λ k. Follows w (sent_so (f k))) number ordered.0))), tt)

  frame_words : (key : Came) (r : Reading) (word : Fate) → (row_of s o key r).word ≡ word → InOrder w (sent_by n r ++ []) → AllArrive (map (λ c. word) (data_said n r))
  frame_words key (says src dst (packet m content)) word is order = by_number key src dst (λ k. packet k content) content m word (packet_arrives key src dst content) is order
  frame_words key (says src dst (scalar m bits value)) word is order = by_number key src dst (λ k. scalar k bits value) _ m word (scalar_arrives key src dst bits value) is order
  frame_words key (is_faulty f) word is order = tt
  frame_words key (brings src dst q) word is order = tt
  frame_words key (announces text address there) word is order = tt
  frame_words key (says src dst other) word is order = tt

  -- one deed, where the end is there
  deed_words : (d : Deed) → MayDo s d → InOrder w (letters_of n (says_by o s d)) → AllArrive (words_by o n s d)
  deed_words (takes p name frame word) may order = go (p == o) refl order
    where
      go : (c : Bool) → (p == o) ≡ c → InOrder w (letters_of n (cond c (said_from s p frame ∷ []) [])) → AllArrive (cond c (map (λ k. word) (data_said n (said_from s p frame))) [])
      go true is ordered = frame_words (came_from s p name frame) (said_from s p frame) word (subst (λ q. (row_of s q (came_from s p name frame) (said_from s p frame)).word ≡ word) (eqb-true p o is) may) ordered
      go false is ordered = tt
  deed_words (looks_back p count) may order = tt
  deed_words (puts_owed p frame) may order = tt
  deed_words (looks_ahead p count) may order = tt
  deed_words (calls node call a) may order = tt

-- ---- the words of a deed are told before it is done

all_two : (xs ys : List Fate) → AllArrive xs → AllArrive ys → AllArrive (xs ++ ys)
all_two [] ys a b = b
all_two (x ∷ xs) ys a b = (a.0, all_two xs ys a.1 b)

abbrev pub words_more : Lists → List Fate → Lists
words_more h ws = record { came = h.came; taken = h.taken; lost = h.lost; told = h.told; words = h.words ++ ws }

-- before a connect no data come
no_data : (n : ℕ) (w : Way) → w ≡ not_begun → (r : Reading) → InOrder w (sent_by n r ++ []) → data_said n r ≡ []
no_data n w way (says src dst (packet m content)) order = at_number (m == n) order
  where
    at_number : (c : Bool) → InOrder w (cond c (record { source = src; destination = dst; letter = packet m content } ∷ []) [] ++ []) → cond c (content ∷ []) [] ≡ []
    at_number true ordered = absurd (subst (λ v. Follows v (record { source = src; destination = dst; letter = packet m content })) way ordered.0)
    at_number false ordered = refl
no_data n w way (says src dst (scalar m bits value)) order = at_number (m == n) _ order
  where
    at_number : (c : Bool) (x : List ℕ) → InOrder w (cond c (record { source = src; destination = dst; letter = scalar m bits value } ∷ []) [] ++ []) → cond c (x ∷ []) [] ≡ []
    at_number true x ordered = absurd (subst (λ v. Follows v (record { source = src; destination = dst; letter = scalar m bits value })) way ordered.0)
    at_number false x ordered = refl
no_data n w way (is_faulty f) order = refl
no_data n w way (brings src dst q) order = refl
no_data n w way (announces text address there) order = refl
no_data n w way (says src dst other) order = refl

no_words : (o n : ℕ) (s : DomainState) (w : Way) (d : Deed) → w ≡ not_begun → InOrder w (letters_of n (says_by o s d)) → words_by o n s d ≡ []
no_words o n s w (takes p name frame word) way order = go (p == o) order
  where
    go : (c : Bool) → InOrder w (letters_of n (cond c (said_from s p frame ∷ []) [])) → cond c (map (λ k. word) (data_said n (said_from s p frame))) [] ≡ []
    go true ordered = ap (map (λ k. word)) (no_data n w way (said_from s p frame) ordered)
    go false ordered = refl
no_words o n s w (looks_back p count) way order = refl
no_words o n s w (puts_owed p frame) way order = refl
no_words o n s w (looks_ahead p count) way order = refl
no_words o n s w (calls node call a) way order = refl

pub words_first : (read : RepliesRead) (o n : ℕ) (s : DomainState) (w : Way) (h : Lists) (d : Deed) → MayDo s d → InOrder w (letters_of n (says_by o s d)) → Hearing o n w h s → Hearing o n w (words_more h (words_by o n s d)) s
words_first read o n s w h d may order (unheard none silent way came taken lost words) = unheard none silent way came taken lost (rw (words, no_words o n s w d way order) refl)
words_first read o n s w h d may order (refused none silent begun taken lost) = refused none silent begun taken lost
words_first read o n s w h d may order (heard_at a others arrived at) = heard_at a others (all_two h.words _ arrived (deed_words read o n s w h a at d may order)) (go (heard o n (endpoint_of s a)) at)
  where
    go : (y : Option Heard) → HeardAt a w h y → HeardAt a w (words_more h (words_by o n s d)) y
    go None past = record { way = past.way; kept = past.kept }
    go (Some y) live = record { way = live.way; kept = live.kept; none_lost = λ e. live.none_lost e; none_queued = λ e. live.none_queued e }
