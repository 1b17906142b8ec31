-- Unpacking gives back what was packed.
use Rattle.std.proofs.Common.{◌≡◌, ℕ, ◌+◌, ◌-◌, ◌*◌, ◌/◌, ◌%◌, ◌^◌, ◌<◌, ◌≤◌, ap, ◌∙◌, mod-lt, lit<, arith}
use Rattle.std.proofs.Math.Nat.{div-add-mod}
use Rattle.std.proofs.lemmas.Nat.{div-mul-add, mod-mul-add}
use Rattle.mv_layout.specs.Words.{clock_of, clock_time_of, clock_seat_of, clock_slot_of, link_of, link_seat_of, link_position_of, IsLink}

pub time_back : (time seat slot : ℕ) → seat < 64 → slot ≤ 8191 → clock_time_of (clock_of time seat slot) ≡ time
time_back t s k a b =
    ap (λ (x : ℕ). x / 524288) (let e : t * 524288 + s * 8192 + k ≡ t * 524288 + (s * 8192 + k) = omega arith in e)
    ∙ div-mul-add t 524288 (s * 8192 + k) (omega arith)

pub seat_back : (time seat slot : ℕ) → seat < 64 → slot ≤ 8191 → clock_seat_of (clock_of time seat slot) ≡ seat
seat_back t s k a b =
    ap (λ (x : ℕ). x / 8192 % 64) (let e : t * 524288 + s * 8192 + k ≡ (t * 64 + s) * 8192 + k = omega arith in e)
    ∙ (ap (λ (x : ℕ). x % 64) (div-mul-add (t * 64 + s) 8192 k (omega arith)) ∙ mod-mul-add t 64 s a)

pub slot_back : (time seat slot : ℕ) → seat < 64 → slot ≤ 8191 → clock_slot_of (clock_of time seat slot) ≡ slot
slot_back t s k a b =
    ap (λ (x : ℕ). x % 8192) (let e : t * 524288 + s * 8192 + k ≡ (t * 64 + s) * 8192 + k = omega arith in e)
    ∙ mod-mul-add (t * 64 + s) 8192 k (omega arith)

pub link_seat_back : (seat position : ℕ) → position < 2 ^ 57 → link_seat_of (link_of seat position) ≡ seat
link_seat_back s p a =
    ap (λ (x : ℕ). x - 1) (div-mul-add (s + 1) 144115188075855872 p a) ∙ (let e : s + 1 - 1 ≡ s = omega arith in e)

pub link_position_back : (seat position : ℕ) → position < 2 ^ 57 → link_position_of (link_of seat position) ≡ position
link_position_back s p a = mod-mul-add (s + 1) 144115188075855872 p a

-- what is packed is a packed link
pub link_packed : (seat position : ℕ) → seat < 64 → position < 2 ^ 57 → IsLink (link_of seat position)
link_packed s p a b = (omega arith, omega arith)

-- a packed link is that of its seat and its position
pub link_is : (word : ℕ) → IsLink word → word ≡ link_of (link_seat_of word) (link_position_of word)
link_is w h =
    let whole : 144115188075855872 * (w / 144115188075855872) + w % 144115188075855872 ≡ w = div-add-mod w 144115188075855872 in
    let low : w % 144115188075855872 < 144115188075855872 = mod-lt w (lit< tt) in
    omega arith

-- its seat is below 64
pub link_seat_small : (word : ℕ) → IsLink word → link_seat_of word < 64
link_seat_small w h =
    let whole : 144115188075855872 * (w / 144115188075855872) + w % 144115188075855872 ≡ w = div-add-mod w 144115188075855872 in
    omega arith

-- its position is below 2^57
pub link_position_small : (word : ℕ) → link_position_of word < 2 ^ 57
link_position_small w = mod-lt w (lit< tt)
