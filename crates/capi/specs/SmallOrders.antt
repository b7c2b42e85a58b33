-- W-208: the file of a small order, by its place.
use Rattle.std.specs.Prelude.{Bool, cond, ◌&&◌, List, ℕ, ltb, eqb}
use Rattle.writer.specs.Written.{write_status, writing, out_after}
use Rattle.orders.specs.Listed.{fetched}
use Rattle.orders.specs.declared.Fetched.{Fetched}

-- there is an order to write: it is not refused, and its place is not past the last, which gives "the policy of no classes"
unfoldable pub there : Fetched → Bool
there f = eqb f.status 0 && ltb 0 f.policy.classes

-- the number that refuses it, then 16, too little room
unfoldable pub order_status : ℕ → ℕ → List ℕ → List ℕ → ℕ
order_status n place timing file =
    let f = fetched n place timing in
    cond (there f) (write_status f.policy file) f.status

-- how many bytes the file has, none where none is written
unfoldable pub order_size : ℕ → ℕ → List ℕ → List ℕ → ℕ
order_size n place timing file =
    let f = fetched n place timing in
    cond (there f) (writing f.policy file).size 0

-- the bytes of `file` after the call
unfoldable pub order_file : ℕ → ℕ → List ℕ → List ℕ → List ℕ
order_file n place timing file =
    let f = fetched n place timing in
    cond (there f) (out_after f.policy file) file
