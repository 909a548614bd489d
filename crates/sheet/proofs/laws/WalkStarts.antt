-- Where a walk starts, case by case: the magic of the bytes, and the front of a list.
use Prim.Native.Nat.{ℕ, ◌≤◌, ◌<◌}
use mathlib.Core.Path.{◌≡◌, refl, sym, ◌∙◌, ap}
use mathlib.Core.Bool.{Bool, true, false}
use mathlib.Core.List.{List, [], ◌∷◌, ◌++◌}
use native.Mathlib.Omega.{arith}
use lib.ListN.{length, take, drop}
use lib.Seq.{sets}
use lib.Dec.{eqb}
use borrow.Author.Tests.{lt-ltb, le-ltb, ne_eqb}
use mathlib.Core.Logic.{⊎_elim}
use Rattle.leb128.specs.laws.Cases.{eq_or_ne}
use lib.Pointwise.{pointwise}
use Rattle.std.proofs.Common.{Bor}
use Rattle.sheet.specs.declared.Input.TheVariants.{Bytes, Numbers}
use Rattle.leb128.specs.laws.Storing.{sets_front}
use Rattle.leb128.specs.Refusals.{input_ended, other_magic}
use Rattle.leb128.specs.Source.{refusal}
use Rattle.leb128.specs.Format.{same, walk_bytes, walk_list}
use Rattle.sheet.specs.Limits.{magic_bytes}
use Rattle.sheet.specs.inside.Cursor.{Measure, measured, walk_from}
use Rattle.sheet.specs.inside.Formats.{magic_of, grammar_of, measured_bytes, measured_list}
use Rattle.sheet.specs.declared.Format.{Format}
use Rattle.sheet.specs.declared.Format.TheVariants.{Sheet, Coordinates}

-- equality is a test of both alike
eqb_sym : (a b : ℕ) → eqb a b ≡ eqb b a
eqb_sym a b =
    ⊎_elim
    (λ (e : a ≡ b). rw e)
    (λ (n : a ≡ b → ⊥). ne_eqb a b n ∙ sym (ne_eqb b a (λ (e : b ≡ a). n (sym e))))
    (eq_or_ne a b)

-- a magic is compared pair by pair; the test does not go by which of the two stands first
pub magic_compared : (magic front : List ℕ) → pointwise eqb magic front ≡ same front magic
unfolding same
magic_compared [] [] = refl
magic_compared [] (y ∷ ys) = refl
magic_compared (x ∷ xs) [] = refl
magic_compared (x ∷ xs) (y ∷ ys) = rw (eqb_sym x y, magic_compared xs ys)

-- a magic, stored in front
pub magic_stored : (old magic : List ℕ) → length magic ≡ magic_bytes → magic_bytes ≤ length old
    → magic ++ drop magic_bytes old ≡ sets old 0 magic
magic_stored old magic e h = sym (rw e at (sets_front magic old (omega arith)))

-- how long a format's magic is
pub magic_size : (format : Format) → length (magic_of format) ≡ magic_bytes
magic_size Sheet = refl
magic_size Coordinates = refl

-- the test of a format's magic
pub magic_tested : (format : Format) (bytes : List ℕ) {answer : Bool}
    → answer ≡ pointwise eqb (magic_of format) (take (length (magic_of format)) bytes)
    → same (take magic_bytes bytes) (magic_of format) ≡ answer
magic_tested format bytes e =
    sym (e ∙ magic_compared (magic_of format) (take (length (magic_of format)) bytes) ∙ ap (λ (n : ℕ). same (take n bytes) (magic_of format)) (magic_size format))

module _ (format : Format) (bytes : List ℕ) where
  -- the magic is not whole
  pub too_short : length bytes < magic_bytes → Measure.refused (refusal input_ended (length bytes)) ≡ measured_bytes format bytes
  unfolding walk_bytes measured
  too_short h = rw (magic_size format, lt-ltb (length bytes) magic_bytes h)

  module _ (long : magic_bytes ≤ length bytes) where
    -- another magic
    pub opens_not : same (take magic_bytes bytes) (magic_of format) ≡ false
        → Measure.refused (refusal other_magic 0) ≡ measured_bytes format bytes
    unfolding walk_bytes measured
    opens_not e = rw (magic_size format, le-ltb (length bytes) magic_bytes long, e)

-- the walk along bytes starts behind the magic
pub bytes_walked : (format : Format) (bytes : Bor (List ℕ)) (answer : Measure) → magic_bytes ≤ length bytes.now
    → same (take magic_bytes bytes.now) (magic_of format) ≡ true
    → answer ≡ walk_from (Bytes bytes) (record { at = magic_bytes; count = 0 }) (grammar_of format)
    → answer ≡ measured_bytes format bytes.now
unfolding walk_bytes walk_from
bytes_walked format bytes answer long e w = rw (magic_size format, le-ltb (length bytes.now) magic_bytes long, e) w

-- the walk along a list starts at its front
pub list_walked : (format : Format) (numbers : Bor (List ℕ)) (answer : Measure)
    → answer ≡ walk_from (Numbers numbers) (record { at = 0; count = magic_bytes }) (grammar_of format)
    → answer ≡ measured_list format numbers.now
unfolding walk_list walk_from
list_walked format numbers answer w = w
