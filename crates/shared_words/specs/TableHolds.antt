-- What a ring's table keeps beside its words.
-- Source: docs/ARCHITECTURE.md.
use Rattle.std.specs.Prelude.{◌≡◌, ℕ}
use Rattle.atomic_table.specs.Seated.{TableId}
use Rattle.shared_words.specs.Layout.{word_count}
use Rattle.shared_words.specs.Shape.{IsShape}
use Rattle.shared_words.specs.declared.rule.Shape.{Shape}

pub record TableHolds (table : TableId) (key : Shape) (queue size : ℕ) : Type 0 where
  pub words : table.words ≡ word_count key.size
  pub slots : table.slots ≡ key.size
  pub shape : IsShape key
  pub queue_is : key.queue ≡ queue
  pub size_is : key.size ≡ size
