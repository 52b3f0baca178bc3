-- How many of the messages that are queued at the endpoints of a domain pass a test, change by change.
use Rattle.std.proofs.Common.{◌≡◌, ℕ, ◌+◌, ◌≤◌, ◌<◌, Bool, true, false, not, cond, List, [], ◌∷◌, ◌++◌, map, filter, drop, find, Option, Some, None, option_to_list, refl, sym, ap, ◌∙◌, subst, arith}
use Rattle.std.specs.Prelude.{count_by, ◌==◌, ◌&&◌}
use Rattle.std.specs.List.{AllByRecursion, flat_map}
use Rattle.std.proofs.lemmas.Bool.{eqb-true, ne_eqb}
use Rattle.board_model.specs.Lists.{changed_first}
use Rattle.board_model.specs.Choice.{without_best}
use Rattle.board_model.specs.State.{Item, ChannelEnd, Endpoint, has_address_of}
use Rattle.board_model.specs.Change.{with_queue, with_channel, without_queue, at_address}
use Rattle.board_model.specs.CallChanges.{best_item}
use Rattle.board_model.specs.Messages.{Message, message_of, is_message_item, queued_at}
use Rattle.board_model.specs.Takings.{Taking, taking, is_message_taking, taken_message}
use Rattle.board_model.proofs.ListsCounts.{one_if, count-cons, count-append}
use Rattle.board_model.proofs.MessageAlls.{all-drop}
use Rattle.board_model.proofs.MessageBest.{count-best}
use Rattle.board_model.proofs.OrderSound.{Rise}

-- an item that came on a channel
abbrev pub OnSome : Item → Type 0
OnSome i = is_message_item i ≡ false

module _ (r : ℕ) (test : Message → Bool) where
  -- of the queues of endpoints, and of one
  abbrev pub weight : List Endpoint → ℕ
  weight es = count_by test (flat_map (queued_at r) es)

  abbrev pub weight_of : Endpoint → ℕ
  weight_of e = count_by test (queued_at r e)

  -- of what is taken
  abbrev pub took : List Taking → ℕ
  took ts = count_by test (map (taken_message r) (filter is_message_taking ts))

  -- an item is a message that passes
  abbrev pub passes : ℕ → Item → Bool
  passes a i = is_message_item i && test (message_of r a i)

  -- among all items, and among messages alone
  pub weight-is : (a : ℕ) (q : List Item) → count_by test (map (message_of r a) (filter is_message_item q)) ≡ count_by (passes a) q
  weight-is a [] = refl
  weight-is a (i ∷ q) = go (is_message_item i) refl (weight-is a q)
    where
      go : (b : Bool) → is_message_item i ≡ b → count_by test (map (message_of r a) (filter is_message_item q)) ≡ count_by (passes a) q → count_by test (map (message_of r a) (cond b (i ∷ filter is_message_item q) (filter is_message_item q))) ≡ count_by (passes a) (i ∷ q)
      go true is more = omega (arith, count-cons test (message_of r a i) (map (message_of r a) (filter is_message_item q)), count-cons (passes a) i q, more, ap (λ b. one_if (b && test (message_of r a i))) is)
      go false is more = omega (arith, count-cons (passes a) i q, more, ap (λ b. one_if (b && test (message_of r a i))) is)

  -- what is taken of an item
  pub took-item : (request : Option ℕ) (a : ℕ) (o : Option Item) → took (map (taking request a) (option_to_list o)) ≡ count_by (passes a) (option_to_list o)
  took-item request a None = refl
  took-item request a (Some i) = go (is_message_item i) refl
    where
      go : (b : Bool) → is_message_item i ≡ b → count_by test (map (taken_message r) (cond b (taking request a i ∷ []) [])) ≡ count_by (passes a) (i ∷ [])
      go true is = omega (arith, count-cons test (message_of r a i) [], count-cons (passes a) i [], ap (λ b. one_if (b && test (message_of r a i))) is)
      go false is = omega (arith, count-cons (passes a) i [], ap (λ b. one_if (b && test (message_of r a i))) is)

  none-passes-here : (a : ℕ) (q : List Item) → AllByRecursion OnSome q → count_by (passes a) q ≡ 0
  none-passes-here a [] all = refl
  none-passes-here a (i ∷ q) all =
      let is : is_message_item i ≡ false = all.0 in
      omega (arith, count-cons (passes a) i q, none-passes-here a q all.1, ap (λ b. one_if (b && test (message_of r a i))) is)

  pub weight-cons : (e : Endpoint) (es : List Endpoint) → weight (e ∷ es) ≡ weight_of e + weight es
  weight-cons e es = count-append test (queued_at r e) (flat_map (queued_at r) es)

  -- ---- one endpoint changes

  by_last : (b : Bool) (e : Endpoint) (es : List Endpoint) (x : Option Endpoint) (more : List Endpoint) (f : Endpoint → Endpoint) (a : ℕ) (m n : Option Endpoint → ℕ) → (b ≡ true → weight_of (f e) + n (Some e) ≡ weight_of e + m (Some e)) → weight more + n x ≡ weight es + m x →
      weight (cond b (f e ∷ es) (e ∷ more)) + n (cond b (Some e) x) ≡ weight (e ∷ es) + m (cond b (Some e) x)
  by_last true e es x more f a m n here rest = omega (arith, here refl, weight-cons (f e) es, weight-cons e es)
  by_last false e es x more f a m n here rest = omega (arith, rest, weight-cons e more, weight-cons e es)

  pub weight-changed : (a : ℕ) (f : Endpoint → Endpoint) (m n : Option Endpoint → ℕ) → m None ≡ 0 → n None ≡ 0 → ((e : Endpoint) → e.address ≡ a → weight_of (f e) + n (Some e) ≡ weight_of e + m (Some e)) → (es : List Endpoint) →
      weight (at_address a f es) + n (find (has_address_of a) es) ≡ weight es + m (find (has_address_of a) es)
  weight-changed a f m n none none' each [] = omega arith
  weight-changed a f m n none none' each (e ∷ es) =
      by_last (has_address_of a e) e es (find (has_address_of a) es) (at_address a f es) f a m n (λ is. each e (eqb-true e.address a is)) (weight-changed a f m n none none' each es)

  -- an endpoint changes, and not what its messages weigh
  pub weight-same : (p : Endpoint → Bool) (f : Endpoint → Endpoint) (es : List Endpoint) → ((e : Endpoint) → find p es ≡ Some e → weight_of (f e) ≡ weight_of e) → weight (changed_first p f es) ≡ weight es
  weight-same p f [] same = refl
  weight-same p f (e ∷ es) same = go (p e) same (λ h. weight-same p f es h)
    where
      go : (b : Bool) → ((x : Endpoint) → cond b (Some e) (find p es) ≡ Some x → weight_of (f x) ≡ weight_of x) → (((x : Endpoint) → find p es ≡ Some x → weight_of (f x) ≡ weight_of x) → weight (changed_first p f es) ≡ weight es) → weight (cond b (f e ∷ es) (e ∷ changed_first p f es)) ≡ weight (e ∷ es)
      go true here more = omega (arith, here e refl, weight-cons (f e) es, weight-cons e es)
      go false here more = omega (arith, more here, weight-cons e (changed_first p f es), weight-cons e es)

  pub weight-set : (a : ℕ) (c : Option ChannelEnd) (es : List Endpoint) → weight (at_address a (with_channel c) es) ≡ weight es
  weight-set a c es = weight-same (has_address_of a) (with_channel c) es (λ e is. refl)

  -- what came on a channel is dropped
  pub weight-dropped : (a : ℕ) (c : Option ChannelEnd) (e : Endpoint) (es : List Endpoint) → find (has_address_of a) es ≡ Some e → AllByRecursion OnSome e.queue → weight (at_address a (without_queue c) es) ≡ weight es
  weight-dropped a c e es found all =
      weight-same (has_address_of a) (without_queue c) es (λ x is. let same : e ≡ x = one x is in subst (λ (y : Endpoint). 0 ≡ weight_of y) same (sym (weight-is e.address e.queue ∙ none-passes-here e.address e.queue all)))
    where
      one : (x : Endpoint) → find (has_address_of a) es ≡ Some x → e ≡ x
      one x is = let both : Some e ≡ Some x = sym found ∙ is in cc

  -- what came on a channel goes, the oldest first
  pub weight-oldest : (a : ℕ) (e : Endpoint) (es : List Endpoint) → find (has_address_of a) es ≡ Some e → AllByRecursion OnSome e.queue → weight (at_address a (with_queue (drop 1)) es) ≡ weight es
  weight-oldest a e es found all = weight-same (has_address_of a) (with_queue (drop 1)) es (λ x is. let same : e ≡ x = one x is in subst (λ (y : Endpoint). weight_of (with_queue (drop 1) y) ≡ weight_of y) same here)
    where
      one : (x : Endpoint) → find (has_address_of a) es ≡ Some x → e ≡ x
      one x is = let both : Some e ≡ Some x = sym found ∙ is in cc

      here : weight_of (with_queue (drop 1) e) ≡ weight_of e
      here = weight-is e.address (drop 1 e.queue) ∙ (none-passes-here e.address (drop 1 e.queue) (all-drop OnSome 1 e.queue all) ∙ sym (weight-is e.address e.queue ∙ none-passes-here e.address e.queue all))

  -- an item is last in a queue
  abbrev one_more : ℕ → Item → Option Endpoint → ℕ
  one_more a i None = 0
  one_more a i (Some e) = one_if (passes a i)

  last_here : (i : Item) (e : Endpoint) → weight_of (with_queue (λ q. q ++ i ∷ []) e) ≡ weight_of e + one_if (passes e.address i)
  last_here i e =
      weight-is e.address (e.queue ++ i ∷ [])
      ∙ (count-append (passes e.address) e.queue (i ∷ [])
      ∙ omega (arith, count-cons (passes e.address) i [], weight-is e.address e.queue))

  pub weight-queued : (a : ℕ) (i : Item) (e : Endpoint) (es : List Endpoint) → find (has_address_of a) es ≡ Some e → weight (at_address a (with_queue (λ q. q ++ i ∷ [])) es) ≡ weight es + one_if (passes a i)
  weight-queued a i e es is =
      let more = weight-changed a (with_queue (λ q. q ++ i ∷ [])) (one_more a i) (λ o. 0) refl refl
      (λ x at. omega (arith, last_here i x, ap (λ n. one_if (passes n i)) at)) es in
      omega (arith, more, ap (one_more a i) is)

  -- the best is gone
  abbrev pub best_weight : Option Endpoint → ℕ
  best_weight None = 0
  best_weight (Some e) = count_by (passes e.address) (option_to_list (best_item e))

  best_here : (e : Endpoint) → weight_of (with_queue (without_best (λ i. i.priority)) e) + best_weight (Some e) ≡ weight_of e + 0
  best_here e = omega (
    arith,
    weight-is e.address (without_best (λ i. i.priority) e.queue),
    weight-is e.address e.queue,
    count-best (passes e.address) (λ i. i.priority) e.queue,
  )

  pub weight-best : (a : ℕ) (e : Endpoint) (es : List Endpoint) → find (has_address_of a) es ≡ Some e → weight (at_address a (with_queue (without_best (λ i. i.priority))) es) + best_weight (Some e) ≡ weight es
  weight-best a e es is =
      let less = weight-changed a (with_queue (without_best (λ i. i.priority))) (λ o. 0) best_weight refl refl (λ x at. best_here x) es in
      omega (arith, less, ap best_weight is)

  -- ---- endpoints that are made, and gone

  pub weight-made : (x : Endpoint) (es : List Endpoint) → x.queue ≡ [] → weight (es ++ x ∷ []) ≡ weight es
  weight-made x [] none = weight-cons x [] ∙ ap (λ q. count_by test (map (message_of r x.address) (filter is_message_item q)) + weight []) none
  weight-made x (e ∷ es) none = omega (arith, weight-cons e (es ++ x ∷ []), weight-cons e es, weight-made x es none)

  abbrev others : ℕ → List Endpoint → List Endpoint
  others a es = filter (λ e. not (has_address_of a e)) es

  none_gone : (a lo hi : ℕ) (es : List Endpoint) → a < lo → Rise lo es hi → others a es ≡ es
  none_gone a lo hi [] low rise = refl
  none_gone a lo hi (e ∷ es) low rise =
      let here : lo ≤ e.address = rise.0 in
      let differs : (e.address == a) ≡ false = ne_eqb e.address a (λ same. absurd (omega arith)) in
      ap (λ b. cond (not b) (e ∷ others a es) (others a es)) differs ∙ ap (λ (ks : List Endpoint). e ∷ ks) (none_gone a (e.address + 1) hi es (omega arith) rise.1)

  pub weight-gone : (a lo hi : ℕ) (es : List Endpoint) (e : Endpoint) → Rise lo es hi → find (has_address_of a) es ≡ Some e → weight (others a es) + weight_of e ≡ weight es
  weight-gone a lo hi [] e rise is = absurd cc
  weight-gone a lo hi (x ∷ xs) e rise is = go (has_address_of a x) refl is (λ k. weight-gone a (x.address + 1) hi xs e rise.1 k)
    where
      go : (b : Bool) → has_address_of a x ≡ b → cond b (Some x) (find (has_address_of a) xs) ≡ Some e → (find (has_address_of a) xs ≡ Some e → weight (others a xs) + weight_of e ≡ weight xs) →
          weight (cond (not b) (x ∷ others a xs) (others a xs)) + weight_of e ≡ weight (x ∷ xs)
      go true here k later =
          let same : x ≡ e = cc in
          let at : x.address ≡ a = eqb-true x.address a here in
          let rest : others a xs ≡ xs = none_gone a (x.address + 1) hi xs (omega arith) rise.1 in
          omega (arith, weight-cons x xs, ap weight_of same, ap weight rest)
      go false here k later = omega (arith, weight-cons x xs, weight-cons x (others a xs), later k)
