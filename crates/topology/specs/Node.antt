-- One node in its words, and the changes of the tree (CPUTopoNode, sched.rs).
use Rattle.std.specs.Prelude.{ℕ, zero, suc, ◌+◌, ◌-◌, ◌/◌, ◌<◌, ◌≡◌, refl, Bool, true, false, cond, List, length, set, replicate, eqb, ltb}
use Rattle.std.proofs.Common.{◌∙◌, arith}
use Rattle.topology.specs.CpuSet.{bit, set_bit, max_cpu_id}
use Rattle.topology.specs.Words.{word, put_word, length_put}

unfoldable pub lesser : ℕ → ℕ → ℕ
lesser a b = cond (ltb a b) a b

unfoldable pub greater : ℕ → ℕ → ℕ
greater a b = cond (ltb a b) b a

-- the words of a node, by their names in the code
abbrev pub level_type : ℕ
level_type = 0

abbrev pub parent : ℕ
parent = 1

abbrev pub children : ℕ
children = 2

abbrev pub first : ℕ
first = 3

abbrev pub end : ℕ
end = 4

abbrev pub next : ℕ
next = 5

abbrev pub prev : ℕ
prev = 6

abbrev pub sets : ℕ
sets = 16

abbrev pub no_cpu : ℕ
no_cpu = 18446744073709551615

-- a node without children and CPUs
unfoldable pub new_node : ℕ → ℕ → ℕ → ℕ → List ℕ
new_node type p before after =
    set (set (set (set (set (replicate 32 0) level_type type) parent p) first no_cpu) next after) prev before

unfoldable pub put_node : List (List ℕ) → ℕ → List ℕ → List (List ℕ)
put_node rows n row = set rows n row

-- the root alone: "node 0 is the root", of type System
unfoldable pub new_root : List (List ℕ) → List (List ℕ)
new_root rows = put_node rows 0 (new_node 0 0 0 0)

-- "new last child node": the node before the parent in the order of a search is now before the new one, and that before the parent
unfoldable pub linked : List (List ℕ) → ℕ → ℕ → ℕ → ℕ → List (List ℕ)
linked rows n p type before =
    put_word (put_word (put_word (put_node rows n (new_node type p before p)) before next n) p prev n) p children 1

unfoldable pub add_child : List (List ℕ) → ℕ → ℕ → ℕ → List (List ℕ)
add_child rows n p type = linked rows n p type (word rows p prev)

unfoldable pub has_children : List (List ℕ) → ℕ → Bool
has_children rows n = ltb 0 (word rows n children)

unfoldable pub has_cpus : List (List ℕ) → ℕ → Bool
has_cpus rows n = cond (has_children rows n) false (ltb 0 (word rows n end))

-- CPU c is on node n or below it
unfoldable pub contains_at : List (List ℕ) → ℕ → ℕ → Bool
contains_at rows n c = cond (ltb c max_cpu_id) (bit (word rows n (sets + c / 64)) c) false

-- where the CPUs of a node begin and end
unfoldable pub first_of : List (List ℕ) → ℕ → ℕ
first_of rows n = word rows n first

unfoldable pub end_of : List (List ℕ) → ℕ → ℕ → ℕ
end_of rows n limit = lesser (word rows n end) limit

-- CPU c put on node n
unfoldable pub put_cpu : List (List ℕ) → ℕ → ℕ → List (List ℕ)
put_cpu rows n c =
    cond (ltb c max_cpu_id)
    (put_word
    (put_word (put_word rows n (sets + c / 64) (set_bit (word rows n (sets + c / 64)) c)) n first (lesser (word rows n first) c))
    n end (greater (word rows n end) (c + 1)))
    rows

-- "put the CPU on that node and all nodes above": at most k of them
unfoldable pub set_cpu_up : ℕ → List (List ℕ) → ℕ → ℕ → List (List ℕ)
set_cpu_up zero rows n c = rows
set_cpu_up (suc k) rows n c =
    cond (eqb n 0) (put_cpu rows n c) (set_cpu_up k (put_cpu rows n c) (word (put_cpu rows n c) n parent) c)

unfoldable pub set_cpu : List (List ℕ) → ℕ → ℕ → List (List ℕ)
set_cpu rows n c = set_cpu_up (length rows) rows n c

-- ---- for proofs

pub length_put_cpu : (rows : List (List ℕ)) (n c : ℕ) → length (put_cpu rows n c) ≡ length rows
unfolding put_cpu
length_put_cpu rows n c = go (ltb c max_cpu_id)
  where
    go : (t : Bool) → length (cond t
        (put_word
        (put_word (put_word rows n (sets + c / 64) (set_bit (word rows n (sets + c / 64)) c)) n first (lesser (word rows n first) c))
        n end (greater (word rows n end) (c + 1)))
        rows) ≡ length rows
    go true = length_put _ n end _ ∙ length_put _ n first _ ∙ length_put rows n (sets + c / 64) _
    go false = refl

-- one turn of the way up
pub set_cpu_turn : (k : ℕ) (rows : List (List ℕ)) (n c : ℕ) → 0 < k
    → set_cpu_up k rows n c ≡ cond (eqb n 0) (put_cpu rows n c) (set_cpu_up (k - 1) (put_cpu rows n c) (word (put_cpu rows n c) n parent) c)
unfolding set_cpu_up
set_cpu_turn zero rows n c h = absurd (omega arith)
set_cpu_turn (suc k) rows n c h = let e : suc k - 1 ≡ k = omega arith in rw e
