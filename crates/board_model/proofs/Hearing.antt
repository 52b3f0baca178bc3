-- The receiver's end of a channel: what is known of it and of what came, while its domain runs.
use Rattle.std.proofs.Common.{◌≡◌, ℕ, Bool, true, false, cond, List, [], ◌∷◌, ◌++◌, map, Option, Some, None, option_to_list, refl, sym, ap, ◌∙◌, subst}
use Rattle.std.specs.Prelude.{◌==◌}
use Rattle.std.specs.List.{AllByRecursion}
use Rattle.std.proofs.lemmas.List.{append_assoc, append-nil, map-append}
use Rattle.mc_base.specs.Letter.{accept}
use Rattle.mc_base.specs.declared.fate.Fate.{Fate}
use Rattle.board_model.proofs.ChannelWords.{rest, Way, not_begun, goes_to, is_over}
use Rattle.board_model.specs.ChannelEnds.{hears_from, is_closed}
use Rattle.board_model.specs.Channels.{arrives}
use Rattle.board_model.specs.Choice.{oldest}
use Rattle.board_model.specs.State.{Item, ChannelEnd, Endpoint, Peer, DomainState, endpoint_of, peer_at, replying}
use Rattle.mc_base.specs.Reading.{Reading, says, reading}

-- the receiver's end and its queue
pub record Heard : Type 0 where
  pub end : ChannelEnd
  pub queue : List Item

abbrev pub heard_of : ℕ → ℕ → Option ChannelEnd → List Item → Option Heard
heard_of o n None q = None
heard_of o n (Some c) q = cond (hears_from o n c) (Some (record { end = c; queue = q })) None

abbrev pub heard : ℕ → ℕ → Option Endpoint → Option Heard
heard o n None = None
heard o n (Some e) = heard_of o n e.channel e.queue

-- the words of data that came to an end
abbrev pub AllArrive : List Fate → Type 0
AllArrive ws = AllByRecursion (λ w. arrives w ≡ true) ws

-- what came, was taken and was lost so far, the frames that were put to the owner, and the words of the data
pub record Lists : Type 0 where
  pub came : List (List ℕ)
  pub taken : List (List ℕ)
  pub lost : List (List ℕ)
  pub told : List (List ℕ)
  pub words : List Fate

abbrev pub more : Lists → List (List ℕ) → List (List ℕ) → List (List ℕ) → Lists
more h came taken lost = record { came = h.came ++ came; taken = h.taken ++ taken; lost = h.lost ++ lost; told = h.told; words = h.words }

-- a live end: what came was taken, or lost, or is queued. While it is not closed nothing was lost; and then nothing is queued
pub record Live (a : ℕ) (w : Way) (h : Lists) (x : Heard) : Type 0 where
  pub way : w ≡ cond x.end.far_closed (is_over a) (goes_to a x.end.kind)
  pub kept : h.came ≡ h.taken ++ (h.lost ++ map (λ i. i.content) x.queue)
  pub none_lost : is_closed x.end.stage ≡ false → h.lost ≡ []
  pub none_queued : is_closed x.end.stage ≡ true → x.queue ≡ []

-- where the end is gone, its sender closed
pub record Past (a : ℕ) (w : Way) (h : Lists) : Type 0 where
  pub way : w ≡ is_over a
  pub kept : h.came ≡ h.taken ++ h.lost

abbrev pub HeardAt : ℕ → Way → Lists → Option Heard → Type 0
HeardAt a w h None = Past a w h
HeardAt a w h (Some x) = Live a w h x

abbrev pub has_begun : Way → Bool
has_begun not_begun = false
has_begun other = true

-- nothing to the owner accepts the channel
abbrev pub accepts : ℕ → Reading → Bool
accepts n (says src dst (accept m)) = m == n
accepts n other = false

abbrev pub NoAccept : ℕ → List (List ℕ) → Type 0
NoAccept n frames = AllByRecursion (λ f. accepts n (reading f) ≡ false) frames

abbrev pub owed_replies : Option Peer → List (List ℕ)
owed_replies None = []
owed_replies (Some p) = map replying p.replies

-- no endpoint hears the channel
abbrev pub NoneHears : ℕ → ℕ → DomainState → Type 0
NoneHears o n s = (b : ℕ) → heard o n (endpoint_of s b) ≡ None

-- no accept of the channel was put to the owner, and none is owed
abbrev pub Silence : ℕ → Lists → DomainState → ℕ → Type 0
Silence n h s o = NoAccept n h.told × NoAccept n (owed_replies (peer_at s o))

-- how a domain stands to the channel (o, n), when its letters have come so far: no connect came; it was refused; or it was accepted by
-- the endpoint with address a
pub data Hearing (o n : ℕ) (w : Way) (h : Lists) (s : DomainState) : Type 0 where
  unheard : NoneHears o n s → Silence n h s o → w ≡ not_begun → h.came ≡ [] → h.taken ≡ [] → h.lost ≡ [] → h.words ≡ [] → Hearing o n w h s
  refused : NoneHears o n s → Silence n h s o → has_begun w ≡ true → h.taken ≡ [] → h.lost ≡ [] → Hearing o n w h s
  heard_at : (a : ℕ) → ((b : ℕ) → (a == b) ≡ false → heard o n (endpoint_of s b) ≡ None) → AllArrive h.words → HeardAt a w h (heard o n (endpoint_of s a)) → Hearing o n w h s

-- ---- small steps of one end

-- what one change does to the end, with what came, was taken and was lost by it
pub data Moves : Option Heard → Option Heard → List (List ℕ) → List (List ℕ) → List (List ℕ) → Type 0 where
  stays : (o : Option Heard) → Moves o o [] [] []
  comes : (x : Heard) (i : Item) → is_closed x.end.stage ≡ false → Moves (Some x) (Some (record { end = x.end; queue = x.queue ++ i ∷ [] })) (i.content ∷ []) [] []
  passes : (x : Heard) (i : Item) → is_closed x.end.stage ≡ false → x.queue ≡ [] → Moves (Some x) (Some x) (i.content ∷ []) (i.content ∷ []) []
  loses : (x : Heard) (i : Item) → is_closed x.end.stage ≡ true → Moves (Some x) (Some x) (i.content ∷ []) [] (i.content ∷ [])
  gives : (x : Heard) → is_closed x.end.stage ≡ false → Moves (Some x) (Some (record { end = x.end; queue = rest x.queue })) [] (map (λ i. i.content) (option_to_list (oldest x.queue))) []
  turns : (x : Heard) (c : ChannelEnd) → c.kind ≡ x.end.kind → c.far_closed ≡ x.end.far_closed → is_closed c.stage ≡ is_closed x.end.stage → Moves (Some x) (Some (record { end = c; queue = x.queue })) [] [] []
  shuts : (x : Heard) (c : ChannelEnd) → c.kind ≡ x.end.kind → c.far_closed ≡ x.end.far_closed → is_closed x.end.stage ≡ false → is_closed c.stage ≡ true → Moves (Some x) (Some (record { end = c; queue = [] })) [] [] (map (λ i. i.content) x.queue)
  ends : (x : Heard) → x.end.far_closed ≡ true → is_closed x.end.stage ≡ false → Moves (Some x) None [] [] (map (λ i. i.content) x.queue)

contents : List Item → List (List ℕ)
contents q = map (λ i. i.content) q

pub nothing : (h : Lists) → more h [] [] [] ≡ h
nothing h = let a = append-nil h.came in let b = append-nil h.taken in let c = append-nil h.lost in
    ap (λ x. record { came = x; taken = h.taken ++ []; lost = h.lost ++ []; told = h.told; words = h.words }) a ∙ (ap (λ x. record { came = h.came; taken = x; lost = h.lost ++ []; told = h.told; words = h.words }) b ∙ ap (λ x. record { came = h.came; taken = h.taken; lost = x; told = h.told; words = h.words }) c)

oldest_first : (q : List Item) → map (λ i. i.content) (option_to_list (oldest q)) ++ map (λ i. i.content) (rest q) ≡ map (λ i. i.content) q
oldest_first [] = refl
oldest_first (x ∷ xs) = refl

-- what holds of the end still holds
pub heard_moves : (a : ℕ) (w : Way) (h : Lists) (old new : Option Heard) (came taken lost : List (List ℕ)) → Moves old new came taken lost → HeardAt a w h old → HeardAt a w (more h came taken lost) new
heard_moves a w h old new came taken lost (stays o) at = subst (λ k. HeardAt a w k o) (sym (nothing h)) at
heard_moves a w h old new came taken lost (comes x i live) at =
    let none = at.none_lost live in
    let kept = at.kept in
    record {
      way = at.way;
      kept = rw (kept, none) (simp (append_assoc, append-nil, map-append));
      none_lost = λ e. append-nil h.lost ∙ none;
      none_queued = λ e. absurd cc;
    }
heard_moves a w h old new came taken lost (passes x i live empty) at =
    let none = at.none_lost live in
    let kept = at.kept in
    record {
      way = at.way;
      kept = rw (kept, none, empty) (simp (append_assoc, append-nil));
      none_lost = λ e. append-nil h.lost ∙ none;
      none_queued = λ e. empty;
    }
heard_moves a w h old new came taken lost (loses x i closed_end) at =
    let kept = at.kept in
    let empty = at.none_queued closed_end in
    record {
      way = at.way;
      kept = rw (kept, empty) (simp (append_assoc, append-nil));
      none_lost = λ e. absurd cc;
      none_queued = λ e. empty;
    }
heard_moves a w h old new came taken lost (gives x live) at =
    let none = at.none_lost live in
    let kept = at.kept in
    let first = oldest_first x.queue in
    record {
      way = at.way;
      kept = rw (kept, none) (simp (append_assoc, append-nil) (ap (λ k. h.taken ++ k) (sym first)));
      none_lost = λ e. append-nil h.lost ∙ none;
      none_queued = λ e. absurd cc;
    }
heard_moves a w h old new came taken lost (turns x c kind far same) at = subst (λ k. HeardAt a w k (Some (record { end = c; queue = x.queue }))) (sym (nothing h)) (record {
  way = at.way ∙ (ap (λ b. cond b (is_over a) (goes_to a x.end.kind)) (sym far) ∙ ap (λ k. cond c.far_closed (is_over a) (goes_to a k)) (sym kind));
  kept = at.kept;
  none_lost = λ e. at.none_lost (sym same ∙ e);
  none_queued = λ e. at.none_queued (sym same ∙ e);
})
heard_moves a w h old new came taken lost (shuts x c kind far live closed_end) at =
    let kept = at.kept in
    record {
      way = at.way ∙ (ap (λ b. cond b (is_over a) (goes_to a x.end.kind)) (sym far) ∙ ap (λ k. cond c.far_closed (is_over a) (goes_to a k)) (sym kind));
      kept = rw kept (simp (append_assoc, append-nil));
      none_lost = λ e. absurd cc;
      none_queued = λ e. refl;
    }
heard_moves a w h old new came taken lost (ends x far live) at =
    let kept = at.kept in
    record {
      way = at.way ∙ ap (λ b. cond b (is_over a) (goes_to a x.end.kind)) far;
      kept = rw kept (simp (append_assoc, append-nil));
    }
