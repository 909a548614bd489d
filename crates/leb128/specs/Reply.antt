-- What a call answers: a value, or the refusal.
use Rattle.leb128.specs.declared.Refusal.{Refusal}

-- of values of any type
pub data Reply (A : Type 0) : Type 0 where
  value : A → Reply A
  refused : Refusal → Reply A
