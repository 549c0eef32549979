-- WHERE SOMETHING IS: at a place, or nowhere.
use Rattle.std.specs.Prelude.{Option, ℕ}
pub use Rattle.std.specs.Prelude.{Some as At, None as Nowhere}

abbrev pub Place : Type 0
Place = Option ℕ
