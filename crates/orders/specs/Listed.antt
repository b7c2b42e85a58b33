-- W-208: "each legal order of n classes, n from 1 to 4, as policies with E = 4, minimums 0 and a given timing body".
use Rattle.std.specs.Prelude.{Bool, cond, ◌&&◌, List, [], ◌∷◌, ℕ, ◌+◌, ◌-◌, ◌*◌, ◌/◌, ◌%◌, ◌^◌, ltb, eqb, length, get_or}
use Rattle.basics.specs.Below.{list_of}
use Rattle.timing.specs.Timing.{within, timing_sound}
use Rattle.policy.specs.Policy.{no_policy}
use Rattle.file.specs.File.{byte}
use Rattle.file.specs.Taken.{timing_from, policy_of}
use Rattle.timing.specs.declared.Timing.{Timing}
use Rattle.policy.specs.declared.Policy.{Policy}
use Rattle.orders.specs.declared.Fetched.{Fetched}

-- ---- the orders

-- "n from 1 to 4"
unfoldable pub few : ℕ → Bool
few n = within 1 n 4

-- "There are 1, 2, 9 and 76."
unfoldable pub count_of : ℕ → ℕ
count_of n = get_or (0 ∷ 1 ∷ 2 ∷ 9 ∷ 76 ∷ []) n 0

-- where those of n classes begin among them all
unfoldable pub first_of : ℕ → ℕ
first_of n = get_or (0 ∷ 0 ∷ 1 ∷ 3 ∷ 12 ∷ []) n 0

-- the orders of one class, of two, of three and of four: `SMALL_ORDERS` in the code. A row of four classes or fewer is one hexadecimal digit, so an order is a number of as many
-- digits as it has classes, row 0 first. That they are the legal orders, all of them, is `EveryOrder`.
unfoldable pub small_orders : List ℕ
small_orders =
    0x1
    ∷ 0x13 ∷ 0x32
    ∷ 0x127 ∷ 0x137 ∷ 0x174 ∷ 0x175 ∷ 0x327 ∷ 0x574 ∷ 0x724 ∷ 0x726 ∷ 0x764
    ∷ 0x124F ∷ 0x125F ∷ 0x126F ∷ 0x127F ∷ 0x12F8 ∷ 0x12F9 ∷ 0x12FA ∷ 0x12FB ∷ 0x134F ∷ 0x135F ∷ 0x137F ∷ 0x13F8
    ∷ 0x13F9 ∷ 0x13FB ∷ 0x164F ∷ 0x174F ∷ 0x175F ∷ 0x1AF8 ∷ 0x1BF8 ∷ 0x1BF9 ∷ 0x1F48 ∷ 0x1F49 ∷ 0x1F4C ∷ 0x1F4D
    ∷ 0x1F58 ∷ 0x1F59 ∷ 0x1F5D ∷ 0x1FC8 ∷ 0x1FD8 ∷ 0x1FD9 ∷ 0x324F ∷ 0x326F ∷ 0x327F ∷ 0x32F8 ∷ 0x32FA ∷ 0x32FB
    ∷ 0x524F ∷ 0x564F ∷ 0x574F ∷ 0x5F48 ∷ 0x5F4C ∷ 0x5F4D ∷ 0x724F ∷ 0x726F ∷ 0x764F ∷ 0x92F8 ∷ 0x9AF8 ∷ 0x9BF8
    ∷ 0x9F48 ∷ 0x9FC8 ∷ 0x9FD8 ∷ 0xB2F8 ∷ 0xB2FA ∷ 0xBAF8 ∷ 0xDF48 ∷ 0xDF4C ∷ 0xDFC8 ∷ 0xF248 ∷ 0xF24A ∷ 0xF24C
    ∷ 0xF24E ∷ 0xF268 ∷ 0xF26A ∷ 0xF26E ∷ 0xF2C8 ∷ 0xF2E8 ∷ 0xF2EA ∷ 0xF648 ∷ 0xF64C ∷ 0xF64E ∷ 0xFA48 ∷ 0xFAC8
    ∷ 0xFAE8 ∷ 0xFE48 ∷ 0xFE4C ∷ 0xFEC8
    ∷ []

-- row i of an order of n classes that is written as such a number
unfoldable pub digit_of : ℕ → ℕ → ℕ → ℕ
digit_of n order i = order / 2 ^ (4 * (n - 1 - i)) % 16

-- "Each is fetched by its place, from 0": row i of the order of n classes at a place
unfoldable pub row_at : ℕ → ℕ → ℕ → ℕ
row_at n place i = digit_of n (get_or small_orders (first_of n + place) 0) i

-- its n rows
unfoldable pub rows_at : ℕ → ℕ → List ℕ
rows_at n place = list_of n (row_at n place)

-- ---- the call

-- "a given timing body"
unfoldable pub body_timing : List ℕ → Timing
body_timing body = timing_from (length body) (byte body)

-- "policies with E = 4, minimums 0 and a given timing body"
unfoldable pub policy_at : ℕ → ℕ → List ℕ → Policy
policy_at n place body = policy_of n (row_at n place) 4 (λ i. 0) (length body) (byte body)

-- "20 for n outside 1 to 4, asked first; then 2 or 8 for the timing, then the place": 2, "a body's length does not fit"; 8, "a timing byte out of range". 0 where none refuses it.
unfoldable pub fetch_status : ℕ → List ℕ → ℕ
fetch_status n body = cond (few n) (cond (within 10 (length body) 11) (cond (timing_sound (body_timing body)) 0 8) 2) 20

-- "a refusal gives the policy of no classes, and so, with no number, does a place past the last"
unfoldable pub fetched : ℕ → ℕ → List ℕ → Fetched
fetched n place body =
    record {
      status = fetch_status n body;
      policy = cond (eqb (fetch_status n body) 0 && ltb place (count_of n)) (policy_at n place body) no_policy;
    }
