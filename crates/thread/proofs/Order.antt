-- The order that is derived for priorities is the rules': class, then value.
use Rattle.std.specs.Prelude.{ℕ, ◌≡◌, refl, cond, not, ◌&&◌, ◌||◌, ◌==◌, nat_lt}
use Rattle.std.specs.Ordering.{is_lt, is_le, is_eq, nat_cmp, ordering_then, partial_lt, partial_le, ord_max}
use Rattle.std.proofs.Common.{Ordering, Some, ◌∙◌, sym, ap, arith}
use Rattle.std.proofs.lemmas.Bool.Decides.{nat_tests}
use Rattle.rules.specs.declared.PriorityClass.{PriorityClass}
use Rattle.rules.specs.declared.PriorityClass.TheVariants as class
use Rattle.rules.specs.declared.Priority.{Priority}
use Rattle.rules.specs.Priority.{class_number, class_at, priority, less, at_most, greater_of}
use Rattle.rules.specs.contracts.PriorityClassOrd.TheImpl as classes
use Rattle.rules.specs.contracts.PriorityClassOrd.TheImpl.Laws as class_laws
use Rattle.rules.specs.contracts.PriorityClassPartialEq.TheImpl as equal
use Rattle.rules.specs.contracts.PriorityPartialOrd.TheImpl as partial
use Rattle.rules.specs.contracts.PriorityOrd.TheImpl as total
use Rattle.rules.specs.contracts.PriorityOrd.TheImpl.Laws as laws
use Rattle.thread.specs.Priority.{class_again}

-- classes in the order of their numbers
by_number : (c d : PriorityClass) → (classes.cmp-value).it c d ≡ nat_cmp (class_number c) (class_number d)
unfolding class_number
by_number class.Idle class.Idle = refl
by_number class.Idle class.Background = refl
by_number class.Idle class.User = refl
by_number class.Idle class.Realtime = refl
by_number class.Background class.Idle = refl
by_number class.Background class.Background = refl
by_number class.Background class.User = refl
by_number class.Background class.Realtime = refl
by_number class.User class.Idle = refl
by_number class.User class.Background = refl
by_number class.User class.User = refl
by_number class.User class.Realtime = refl
by_number class.Realtime class.Idle = refl
by_number class.Realtime class.Background = refl
by_number class.Realtime class.User = refl
by_number class.Realtime class.Realtime = refl

-- class, then value
lt_then : (a b v w : ℕ) → is_lt (ordering_then (nat_cmp a b) (nat_cmp v w)) ≡ (nat_lt a b || ((a == b) && nat_lt v w))
lt_then a b v w = grind (arith, nat_tests)

le_then : (a b v w : ℕ) → is_le (ordering_then (nat_cmp a b) (nat_cmp v w)) ≡ not (nat_lt b a || ((b == a) && nat_lt w v))
le_then a b v w = grind (arith, nat_tests)

max_then : {X : Type 0} (a b v w : ℕ) (x y : X) → (a ≡ b → v ≡ w → x ≡ y)
    → cond (is_lt (ordering_then (nat_cmp b a) (nat_cmp w v))) x y ≡ cond (nat_lt a b || ((a == b) && nat_lt v w)) y x
max_then a b v w x y s = grind (arith, nat_tests, s)

-- ---- of priorities

ranked : (p q : Priority) → (total.cmp-value).it p q ≡ ordering_then (nat_cmp (class_number p.class) (class_number q.class)) (nat_cmp p.value q.value)
ranked p q = ap (λ (o : Ordering). ordering_then o (nat_cmp p.value q.value)) (by_number p.class q.class)

same_class : (c d : PriorityClass) → class_number c ≡ class_number d → c ≡ d
same_class c d e = sym (class_again c) ∙ (ap class_at e ∙ class_again d)

partial_is : (p q : Priority) → (partial.partial_cmp-value).it p q ≡ Some ((total.cmp-value).it p q)
partial_is p q = laws.matches_partial_cmp-law p q

pub less_derived : (p q : Priority) → partial_lt (partial.partial_cmp-value).it p q ≡ less p q
unfolding less
less_derived p q = rw (partial_is p q, ranked p q) (lt_then (class_number p.class) (class_number q.class) p.value q.value)

pub at_most_derived : (p q : Priority) → partial_le (partial.partial_cmp-value).it p q ≡ at_most p q
unfolding at_most less
at_most_derived p q = rw (partial_is p q, ranked p q) (le_then (class_number p.class) (class_number q.class) p.value q.value)

pub max_derived : (p q : Priority) → ord_max (total.cmp-value).it p q ≡ greater_of p q
unfolding greater_of less
max_derived p q = rw (ranked q p) (max_then (class_number p.class) (class_number q.class) p.value q.value p q (λ e f. ap (λ (c : PriorityClass). priority c p.value) (same_class _ _ e) ∙ ap (λ (v : ℕ). priority q.class v) f))

-- two classes are equal where their numbers are
eq_is : (a b : ℕ) → is_eq (nat_cmp a b) ≡ (a == b)
eq_is a b = grind (arith, nat_tests)

pub class_same : (c d : PriorityClass) → (equal.eq-value).it c d ≡ (class_number c == class_number d)
class_same c d = class_laws.matches_eq-law c d ∙ (ap is_eq (by_number c d) ∙ eq_is (class_number c) (class_number d))
