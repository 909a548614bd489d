-- The cases of a reply exclude each other, and a test may refuse before it.
use Rattle.std.specs.Prelude.{ℕ, ◌≡◌, Bool, true, false, cond}
use Rattle.std.proofs.Common.{arith}
use Rattle.leb128.specs.Reply.{Reply}
use Rattle.leb128.specs.Reply.Reply.{value, refused}
use Rattle.leb128.specs.declared.Refusal.{Refusal}

module _ {A : Type 0} {a : A} where
  -- a value is no refusal
  pub value_not : {r : Refusal} → value a ≡ refused r → ⊥
  value_not e = let z : ◌≡◌ {A = ℕ} 0 1 = cc in omega arith

  -- a value comes from behind a test that would refuse
  pub value_behind : (b : Bool) (r : Refusal) (x : Reply A) → cond b (refused r) x ≡ value a → x ≡ value a
  value_behind true r x e = let z : ◌≡◌ {A = ℕ} 0 1 = cc in absurd (omega arith)
  value_behind false r x e = e
