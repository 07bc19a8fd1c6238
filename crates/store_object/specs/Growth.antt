-- The store only grows. This project's own.
use Rattle.std.specs.Prelude.{◌≡◌, ℕ, Some}
use Rattle.store_object.specs.Store.{Store, Shape, shape_at}

-- each object of the first store is in the second, with its kind, length and number of words
pub record Grows (x y : Store) : Type 0 where
  pub shapes : (object : ℕ) (shape : Shape) → shape_at x object ≡ Some shape → shape_at y object ≡ Some shape
