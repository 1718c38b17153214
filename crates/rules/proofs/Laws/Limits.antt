-- Limits that differ in the shortest timeslice alone, which is a setting; and what reading a command asks of the limits.
use Rattle.std.specs.Prelude.{ℕ, ◌≡◌, refl, List, [], ◌∷◌, Option, None, Some}
use Rattle.std.proofs.Common.{sym, ap, ◌∙◌}
use Rattle.rules.specs.State.{Limits, with_shortest}
use Rattle.rules.specs.Requests.{operands, pin_of, request, widths, read_operands, read}

-- every limit of k but the shortest timeslice is that of l
abbrev pub SameButShortest : Limits → Limits → Type 0
SameButShortest l k = k ≡ with_shortest l k.shortest

pub same_limits : {l k : Limits} → k ≡ l → SameButShortest l k
unfolding with_shortest
same_limits {l} {k} e = e ∙ ap (λ (m : Limits). with_shortest l m.shortest) (sym e)

pub then_same : (l k j : Limits) → SameButShortest l k → SameButShortest k j → SameButShortest l j
unfolding with_shortest
then_same l k j e f = f ∙ ap (λ (m : Limits). with_shortest m j.shortest) e

-- ---- reading asks only how many bytes an operand has that names a CPU or a node

pub record Widths (l k : Limits) : Type 0 where
  pub of_cpus : l.cpu_bytes ≡ k.cpu_bytes
  pub of_nodes : l.node_bytes ≡ k.node_bytes

widths_same : (l k : Limits) → Widths l k → (byte : ℕ) → widths l byte ≡ widths k byte
unfolding widths
widths_same l k e byte = rw (e.of_cpus, e.of_nodes)

request_same : (l k : Limits) → Widths l k → (byte : ℕ) (v : List ℕ) → request l byte v ≡ request k byte v
unfolding request pin_of
request_same l k e byte v = rw e.of_cpus

read_operands_same : (l k : Limits) → Widths l k → (byte : ℕ) (bytes : List ℕ) (o : Option (List ℕ)) → read_operands l byte bytes o ≡ read_operands k byte bytes o
unfolding read_operands
read_operands_same l k e byte bytes None = refl
read_operands_same l k e byte bytes (Some ns) = rw (request_same l k e byte (operands ns bytes))

pub read_widths : (l k : Limits) → Widths l k → (bytes : List ℕ) → read l bytes ≡ read k bytes
unfolding read
read_widths l k e [] = refl
read_widths l k e (byte ∷ bytes) = read_operands_same l k e byte bytes (widths l byte) ∙ ap (read_operands k byte bytes) (widths_same l k e byte)

-- so the setting is not asked
pub read_alike : (l k : Limits) → SameButShortest l k → (bytes : List ℕ) → read k bytes ≡ read l bytes
unfolding with_shortest
read_alike l k e bytes = read_widths k l (record { of_cpus = ap (λ (m : Limits). m.cpu_bytes) e; of_nodes = ap (λ (m : Limits). m.node_bytes) e }) bytes
