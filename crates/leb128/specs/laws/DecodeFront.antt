-- Decoding looks at no more bytes than are allowed, and where so many are there it does not meet the end.
use Rattle.std.specs.Prelude.{ℕ, zero, suc, ◌+◌, ◌-◌, ◌*◌, ◌<◌, ◌≤◌, ◌≡◌, refl, cond, List, [], ◌∷◌, ◌++◌, length, ltb}
use Rattle.std.proofs.Common.{sym, ◌∙◌, ap, ⊎_elim, arith}
use Rattle.leb128.specs.Number.{Decoded, decode, grouped}
use Rattle.leb128.specs.Number.Decoded.{number, ended, overlong}
use Rattle.leb128.specs.laws.Cases.{lt_or_le, eq_or_ne}
use Rattle.leb128.specs.laws.DecodeEncode.{ended_not, decode_last, decode_more, grouped_number, grouped_zero}

-- what follows the bytes allowed does not matter
pub decode_front : (k : ℕ) (front rest : List ℕ) → k ≤ length front → decode k (front ++ rest) ≡ decode k front
unfolding decode
decode_front zero front rest h = refl
decode_front (suc k) [] rest h = absurd (omega arith)
decode_front (suc k) (b ∷ front) rest h =
    ap (λ (d : Decoded). cond (ltb b 128) (number b 1) (grouped (b - 128) d)) (decode_front k front rest (omega arith))

-- groups end where those above do
grouped_ended : (low : ℕ) (d : Decoded) → grouped low d ≡ ended → d ≡ ended
unfolding grouped
grouped_ended low (number high size) e =
    ⊎_elim
    (λ (z : high ≡ 0). let f : overlong ≡ ended = sym (grouped_zero low size) ∙ (rw z at e) in let y : ◌≡◌ {A = ℕ} 0 1 = cc in absurd (omega arith))
    (λ (z : high ≡ 0 → ⊥). absurd (ended_not (low + 128 * high) (suc size) (sym e ∙ grouped_number low high size (omega arith))))
    (eq_or_ne high 0)
grouped_ended low ended e = refl
grouped_ended low overlong e = let y : ◌≡◌ {A = ℕ} 0 1 = cc in absurd (omega arith)

-- where the bytes allowed are there, decoding does not meet the end
pub decode_not_ended : (k : ℕ) (bytes : List ℕ) → k ≤ length bytes → decode k bytes ≡ ended → ⊥
unfolding decode
decode_not_ended zero bytes h e = let y : ◌≡◌ {A = ℕ} 0 1 = cc in omega arith
decode_not_ended (suc k) [] h e = omega arith
decode_not_ended (suc k) (b ∷ bytes) h e =
    ⊎_elim
    (λ (t : b < 128). ended_not b 1 (sym e ∙ decode_last k b bytes t))
    (λ (t : 128 ≤ b). decode_not_ended k bytes (omega arith) (grouped_ended (b - 128) (decode k bytes) (sym (decode_more k b bytes t) ∙ e)))
    (lt_or_le b 128)
