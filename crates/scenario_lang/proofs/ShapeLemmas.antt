-- What the readers tell of the lines of domains and links is what the table of reasons says.
use Rattle.std.proofs.Common.{◌≡◌, ℕ, true, List, [], ◌∷◌, refl, inl, inr}
use Rattle.std.specs.Prelude.{codes, bytes_eq}
use Rattle.board_model.specs.declared.scenario.Scenario.{Scenario}
use Rattle.board_model.specs.declared.scenario.LinkLine.{LinkLine}
use Rattle.board_model.specs.FileWords.{numeral, number, is_number}
use Rattle.board_model.specs.Forms.{domain_form, link_form, says_domain, says_link}
use Rattle.board_model.specs.LineReasons.{is_late, is_domain, has_wrong_domain, has_wrong_link}
use Rattle.scenario_lang.specs.Reading.{after_word, last_word, domain_in, link_in}
use Rattle.scenario_lang.specs.Telling.{domain_told, link_told, parts_told}
use Rattle.scenario_lang.proofs.Options.{cases_bool}

domain_five : (above : Scenario) (d v n p q : List ℕ) → bytes_eq v (codes "nodes") ≡ true → bytes_eq p (codes "pool") ≡ true → domain_told above (d ∷ v ∷ n ∷ p ∷ q ∷ []) ≡ parts_told above (domain_form (d ∷ v ∷ n ∷ p ∷ q ∷ []))
unfolding domain_told domain_in after_word last_word
domain_five above d v n p q nodes pool = elim (cases_bool (is_number (numeral 0 7 d))) [
  | inr bad ↦ rw (nodes, pool, bad) refl
  | inl one ↦ elim (cases_bool (is_number (numeral 1 16 n))) [
    | inr bad ↦ rw (nodes, pool, one, bad) refl
    | inl two ↦ elim (cases_bool (is_number (numeral 1 256 q))) [
      | inr bad ↦ rw (nodes, pool, one, two, bad) refl
      | inl three ↦ elim (cases_bool (is_late above (says_domain (record { domain = number d; nodes = number n; pool = number q })))) [
        | inl late ↦ rw (nodes, pool, one, two, three, late) refl
        | inr early ↦ elim (cases_bool (is_domain above (number d))) [
          | inl again ↦ rw (nodes, pool, one, two, three, early, again) refl
          | inr new ↦ rw (nodes, pool, one, two, three, early, new) refl
        ]
      ]
    ]
  ]
]

pub domain_bridge : (above : Scenario) (words : List (List ℕ)) → domain_told above words ≡ parts_told above (domain_form words)
unfolding domain_told domain_in after_word last_word
domain_bridge above [] = refl
domain_bridge above (d ∷ []) = refl
domain_bridge above (d ∷ v ∷ []) = elim (cases_bool (bytes_eq v (codes "nodes"))) [ inl h ↦ rw h refl | inr h ↦ rw h refl ]
domain_bridge above (d ∷ v ∷ n ∷ []) = elim (cases_bool (bytes_eq v (codes "nodes"))) [ inl h ↦ rw h refl | inr h ↦ rw h refl ]
domain_bridge above (d ∷ v ∷ n ∷ p ∷ []) = elim (cases_bool (bytes_eq v (codes "nodes"))) [
  | inl h ↦ elim (cases_bool (bytes_eq p (codes "pool"))) [ inl k ↦ rw (h, k) refl | inr k ↦ rw (h, k) refl ]
  | inr h ↦ rw h refl
]
domain_bridge above (d ∷ v ∷ n ∷ p ∷ q ∷ []) = elim (cases_bool (bytes_eq v (codes "nodes"))) [
  | inl h ↦ elim (cases_bool (bytes_eq p (codes "pool"))) [ inl k ↦ domain_five above d v n p q h k | inr k ↦ rw (h, k) refl ]
  | inr h ↦ rw h refl
]
domain_bridge above (d ∷ v ∷ n ∷ p ∷ q ∷ r ∷ rs) = elim (cases_bool (bytes_eq v (codes "nodes"))) [
  | inl h ↦ elim (cases_bool (bytes_eq p (codes "pool"))) [ inl k ↦ rw (h, k) refl | inr k ↦ rw (h, k) refl ]
  | inr h ↦ rw h refl
]

abbrev made_link : (a b q : List ℕ) → LinkLine
made_link a b q = record { driver = number a; device = number b; size = number q }

link_four : (above : Scenario) (a b v q : List ℕ) → bytes_eq v (codes "size") ≡ true → link_told above (a ∷ b ∷ v ∷ q ∷ []) ≡ parts_told above (link_form (a ∷ b ∷ v ∷ q ∷ []))
unfolding link_told link_in after_word last_word
link_four above a b v q word = elim (cases_bool (is_number (numeral 0 7 a))) [
  | inr bad ↦ rw (word, bad) refl
  | inl one ↦ elim (cases_bool (is_number (numeral 0 7 b))) [
    | inr bad ↦ rw (word, one, bad) refl
    | inl two ↦ elim (cases_bool (is_number (numeral 0 18446744073709551615 q))) [
      | inr bad ↦ rw (word, one, two, bad) refl
      | inl three ↦ elim (cases_bool (is_late above (says_link (made_link a b q)))) [
        | inl late ↦ rw (word, one, two, three, late) refl
        | inr early ↦ elim (cases_bool (has_wrong_domain above (says_link (made_link a b q)))) [
          | inl bad ↦ rw (word, one, two, three, early, bad) refl
          | inr known ↦ elim (cases_bool (has_wrong_link above (says_link (made_link a b q)))) [
            | inl bad ↦ rw (word, one, two, three, early, known, bad) refl
            | inr good ↦ rw (word, one, two, three, early, known, good) refl
          ]
        ]
      ]
    ]
  ]
]

pub link_bridge : (above : Scenario) (words : List (List ℕ)) → link_told above words ≡ parts_told above (link_form words)
unfolding link_told link_in after_word last_word
link_bridge above [] = refl
link_bridge above (a ∷ []) = refl
link_bridge above (a ∷ b ∷ []) = refl
link_bridge above (a ∷ b ∷ v ∷ []) = elim (cases_bool (bytes_eq v (codes "size"))) [ inl h ↦ rw h refl | inr h ↦ rw h refl ]
link_bridge above (a ∷ b ∷ v ∷ q ∷ []) = elim (cases_bool (bytes_eq v (codes "size"))) [ inl h ↦ link_four above a b v q h | inr h ↦ rw h refl ]
link_bridge above (a ∷ b ∷ v ∷ q ∷ r ∷ rs) = elim (cases_bool (bytes_eq v (codes "size"))) [ inl h ↦ rw h refl | inr h ↦ rw h refl ]
