-- Small programs, as plain trees; above each its text.
use Rattle.std.specs.Prelude.{ℕ, List, [], ◌∷◌, pos, true, Some, None, codes}
use Rattle.hog_tree.specs.declared.tree.BinaryOp.TheVariants.{And, Or, Equal, Less, Plus, Minus, Times}
use Rattle.hog_tree.specs.Plain.{Word, Exp, Exps, Pairs, Stm, Stms, Int, Truth, Text, Template, Name, Array, Dict, Binary, Coalesce, Prop, PropNullish, Index, Call, Lambda, NoExp, MoreExp, NoPart, MoreText, MoreHole, NoPair, MorePair, OneExp, ManyStms, Let, Assign, Do, Return, Throw, If, While, For, ForIn, Fun, Try, Block, Done, Then, NoneExp, SomeExp, NoneStm, SomeStm, NoneStms}

-- a statement, and those after it
infixr 5 ◌⨾◌
abbrev pub ◌⨾◌ : Stm → Stms → Stms
s ⨾ ss = Then s ss

abbrev exps_in : List Exp → Exps
exps_in [] = NoExp
exps_in (x ∷ xs) = MoreExp x (exps_in xs)

abbrev pairs_in : List (Exp × Exp) → Pairs
pairs_in [] = NoPair
pairs_in (p ∷ ps) = MorePair p.0 p.1 (pairs_in ps)

abbrev num : ℕ → Exp
num n = Int (pos n)

abbrev array : List Exp → Exp
array xs = Array (exps_in xs)

abbrev dict : List (Exp × Exp) → Exp
dict ps = Dict (pairs_in ps)

abbrev call : Exp → List Exp → Exp
call f xs = Call f (exps_in xs)

-- `return x;`, and an `if` without an `else`
abbrev gives : Exp → Stm
gives x = Return (SomeExp x)

abbrev when : Exp → Stms → Stm
when c body = If c body NoneStms

-- words

abbrev a : Word
a = codes "a"

abbrev b : Word
b = codes "b"

abbrev d : Word
d = codes "d"

abbrev e : Word
e = codes "e"

abbrev f : Word
f = codes "f"

abbrev g : Word
g = codes "g"

abbrev i : Word
i = codes "i"

abbrev k : Word
k = codes "k"

abbrev n : Word
n = codes "n"

abbrev r : Word
r = codes "r"

abbrev v : Word
v = codes "v"

abbrev x : Word
x = codes "x"

-- A function shares a variable with the program, and of a sum the right operand comes first.
--     let x := 1;
--     fun f() { x := x + 1; return x; }
--     f();
--     return f() + x;
abbrev pub shared_counter : Stms
shared_counter =
    Let x (SomeExp (num 1))
    ⨾ Fun f [] (Assign (Name x) (Binary Plus (Name x) (num 1)) ⨾ gives (Name x) ⨾ Done)
    ⨾ Do (call (Name f) [])
    ⨾ gives (Binary Plus (call (Name f) []) (Name x))
    ⨾ Done

-- What the right operand prints comes first.
--     fun a() { print('a'); return 1; }
--     fun b() { print('b'); return 2; }
--     return a() + b();
abbrev pub right_operand_first : Stms
right_operand_first =
    Fun a [] (Do (call (Name (codes "print")) (Text (codes "a") ∷ [])) ⨾ gives (num 1) ⨾ Done)
    ⨾ Fun b [] (Do (call (Name (codes "print")) (Text (codes "b") ∷ [])) ⨾ gives (num 2) ⨾ Done)
    ⨾ gives (Binary Plus (call (Name a) []) (call (Name b) []))
    ⨾ Done

-- A throw through two calls: the variable that a function has captured outlives its call.
--     let g;
--     fun a() { let x := 1; g := () -> x; x := 2; throw 'out'; }
--     fun b() { a(); print('no'); }
--     try { b(); } catch (e) { return [e, g()]; }
abbrev pub closed_by_a_throw : Stms
closed_by_a_throw =
    Let g NoneExp
    ⨾ Fun a []
    (Let x (SomeExp (num 1))
    ⨾ Assign (Name g) (Lambda [] (OneExp (Name x)))
    ⨾ Assign (Name x) (num 2)
    ⨾ Throw (Text (codes "out"))
    ⨾ Done)
    ⨾ Fun b [] (Do (call (Name a) []) ⨾ Do (call (Name (codes "print")) (Text (codes "no") ∷ [])) ⨾ Done)
    ⨾ Try (Do (call (Name b) []) ⨾ Done) e (gives (array (Name e ∷ call (Name g) [] ∷ [])) ⨾ Done)
    ⨾ Done

-- Past its end an array gives null; index 0 throws, and nobody catches.
--     let a := [10];
--     print(a[1], a[2]);
--     return a[0];
abbrev pub index_error : Stms
index_error =
    Let a (SomeExp (array (num 10 ∷ [])))
    ⨾ Do (call (Name (codes "print")) (Index (Name a) (num 1) ∷ Index (Name a) (num 2) ∷ []))
    ⨾ gives (Index (Name a) (num 0))
    ⨾ Done

-- A sum past 64 bits throws a dictionary, which is caught.
--     try { return 9223372036854775807 + 1; } catch (e) { return e.type; }
abbrev pub overflow_caught : Stms
overflow_caught =
    Try (gives (Binary Plus (num 9223372036854775807) (num 1)) ⨾ Done) e (gives (Prop (Name e) (codes "type")) ⨾ Done)
    ⨾ Done

-- No request is made of a URL that isn't allowed.
--     return fetch('http://a');
abbrev pub blocked_url : Stms
blocked_url =
    gives (call (Name (codes "fetch")) (Text (codes "http://a") ∷ [])) ⨾ Done

-- A request, and what comes of its reply.
--     let r := fetch('https://a', {'n': 1});
--     print(r.status);
--     return r.body;
abbrev pub asking : Stms
asking =
    Let r (SomeExp (call (Name (codes "fetch")) (Text (codes "https://a") ∷ dict ((Text (codes "n"), num 1) ∷ []) ∷ [])))
    ⨾ Do (call (Name (codes "print")) (Prop (Name r) (codes "status") ∷ []))
    ⨾ gives (Prop (Name r) (codes "body"))
    ⨾ Done

-- A loop over a dictionary goes over copies of its keys and values.
--     let d := {'a': 1, 'b': 2};
--     for (let k, v in d) { d[k] := v + 1; d.n := 7; print(k, v); }
--     return d;
abbrev pub keys_and_values : Stms
keys_and_values =
    Let d (SomeExp (dict ((Text (codes "a"), num 1) ∷ (Text (codes "b"), num 2) ∷ [])))
    ⨾ ForIn (Some k) v (Name d)
    (Assign (Index (Name d) (Name k)) (Binary Plus (Name v) (num 1))
    ⨾ Assign (Prop (Name d) n) (num 7)
    ⨾ Do (call (Name (codes "print")) (Name k ∷ Name v ∷ []))
    ⨾ Done)
    ⨾ gives (Name d)
    ⨾ Done

-- Each turn of a loop over values makes a new variable, and a `return` leaves the loop.
--     let a := [];
--     fun f() { for (let v in [1, 2, 3]) { a[v] := () -> v; if (v == 2) { return v; } } }
--     f();
--     return [length(a), a[1](), a[2]()];
abbrev pub captured_in_a_loop : Stms
captured_in_a_loop =
    Let a (SomeExp (array []))
    ⨾ Fun f []
    (ForIn None v (array (num 1 ∷ num 2 ∷ num 3 ∷ []))
    (Assign (Index (Name a) (Name v)) (Lambda [] (OneExp (Name v)))
    ⨾ when (Binary Equal (Name v) (num 2)) (gives (Name v) ⨾ Done)
    ⨾ Done)
    ⨾ Done)
    ⨾ Do (call (Name f) [])
    ⨾ gives (array (call (Name (codes "length")) (Name a ∷ []) ∷ call (Index (Name a) (num 1)) [] ∷ call (Index (Name a) (num 2)) [] ∷ []))
    ⨾ Done

-- A function that is named captures itself.
--     fun f(n) { if (n < 2) { return 1; } return n * f(n - 1); }
--     let g := f;
--     return g(3);
abbrev pub captures_itself : Stms
captures_itself =
    Fun f (n ∷ [])
    (when (Binary Less (Name n) (num 2)) (gives (num 1) ⨾ Done)
    ⨾ gives (Binary Times (Name n) (call (Name f) (Binary Minus (Name n) (num 1) ∷ [])))
    ⨾ Done)
    ⨾ Let g (SomeExp (Name f))
    ⨾ gives (call (Name g) (num 3 ∷ []))
    ⨾ Done

-- The parts of a template in order.
--     let n := 3;
--     return f'{n} of {n + 1}';
abbrev pub template : Stms
template =
    Let n (SomeExp (num 3))
    ⨾ gives (Template (MoreHole (Name n) (MoreText (codes " of ") (MoreHole (Binary Plus (Name n) (num 1)) NoPart))))
    ⨾ Done

-- What is thrown in one turn of a loop is caught in it, and the loop goes on.
--     let n := 0;
--     for (let i := 0; i < 3; i := i + 1) { try { if (i == 1) { throw i; } n := n + 10; } catch (e) { n := n + e; } }
--     return n;
abbrev pub try_in_a_loop : Stms
try_in_a_loop =
    Let n (SomeExp (num 0))
    ⨾ For (SomeStm (Let i (SomeExp (num 0)))) (SomeExp (Binary Less (Name i) (num 3))) (SomeStm (Assign (Name i) (Binary Plus (Name i) (num 1))))
    (Try
    (when (Binary Equal (Name i) (num 1)) (Throw (Name i) ⨾ Done)
    ⨾ Assign (Name n) (Binary Plus (Name n) (num 10))
    ⨾ Done) e (Assign (Name n) (Binary Plus (Name n) (Name e)) ⨾ Done)
    ⨾ Done)
    ⨾ gives (Name n)
    ⨾ Done

-- What a step declares is seen in that step alone: the condition and the block mean the variable around. No text has such a
-- step, but a tree may.
--     let i := 0;
--     for (; i < 2; let i := 5) { i := i + 1; }
--     return i;
abbrev pub declared_in_a_step : Stms
declared_in_a_step =
    Let i (SomeExp (num 0))
    ⨾ For NoneStm (SomeExp (Binary Less (Name i) (num 2))) (SomeStm (Let i (SomeExp (num 5))))
    (Assign (Name i) (Binary Plus (Name i) (num 1)) ⨾ Done)
    ⨾ gives (Name i)
    ⨾ Done

-- A word that is declared nowhere is a global, and one that isn't there is null.
--     return [inputs.url, event ?? 'none', event?.name];
abbrev pub globals_read : Stms
globals_read =
    gives (array (Prop (Name (codes "inputs")) (codes "url") ∷ Coalesce (Name (codes "event")) (Text (codes "none")) ∷ PropNullish (Name (codes "event")) (codes "name") ∷ []))
    ⨾ Done

-- A function of the prelude, placed before the program.
--     fun arrayMap(f, a) { let r := []; for (let x in a) { r[length(r) + 1] := f(x); } return r; }
--     { return arrayMap(x -> x * x, [2, 3]); }
abbrev pub mapped : Stms
mapped =
    Fun (codes "arrayMap") (f ∷ a ∷ [])
    (Let r (SomeExp (array []))
    ⨾ ForIn None x (Name a)
    (Assign (Index (Name r) (Binary Plus (call (Name (codes "length")) (Name r ∷ [])) (num 1))) (call (Name f) (Name x ∷ []))
    ⨾ Done)
    ⨾ gives (Name r)
    ⨾ Done)
    ⨾ Block
    (gives (call (Name (codes "arrayMap")) (Lambda (x ∷ []) (OneExp (Binary Times (Name x) (Name x))) ∷ array (num 2 ∷ num 3 ∷ []) ∷ []))
    ⨾ Done)
    ⨾ Done

-- `and` and `or` take both sides, the left one first, and give a truth value.
--     fun f(n) { print(n); return n; }
--     return [f(0) and f(1), f(2) or f(3)];
abbrev pub both_operands : Stms
both_operands =
    Fun f (n ∷ []) (Do (call (Name (codes "print")) (Name n ∷ [])) ⨾ gives (Name n) ⨾ Done)
    ⨾ gives (array (Binary And (call (Name f) (num 0 ∷ [])) (call (Name f) (num 1 ∷ [])) ∷ Binary Or (call (Name f) (num 2 ∷ [])) (call (Name f) (num 3 ∷ [])) ∷ []))
    ⨾ Done

-- The name of a `catch` is a new variable, which hides one of that name and may be captured.
--     let x := 1;
--     let f;
--     try { throw 2; } catch (x) { f := () -> x; x := 3; }
--     return [x, f()];
abbrev pub caught_name : Stms
caught_name =
    Let x (SomeExp (num 1))
    ⨾ Let f NoneExp
    ⨾ Try (Throw (num 2) ⨾ Done) x (Assign (Name f) (Lambda [] (OneExp (Name x))) ⨾ Assign (Name x) (num 3) ⨾ Done)
    ⨾ gives (array (Name x ∷ call (Name f) [] ∷ []))
    ⨾ Done

-- A function captures what its `catch` reads.
--     let x := 1;
--     let f := () -> { try { throw 2; } catch (e) { return x + e; } };
--     return f();
abbrev pub captured_in_a_catch : Stms
captured_in_a_catch =
    Let x (SomeExp (num 1))
    ⨾ Let f (SomeExp (Lambda [] (ManyStms (Try (Throw (num 2) ⨾ Done) e (gives (Binary Plus (Name x) (Name e)) ⨾ Done) ⨾ Done))))
    ⨾ gives (call (Name f) [])
    ⨾ Done

-- A `return` leaves its `try`, which catches nothing from then on.
--     fun f() { try { return 1; } catch (e) { return 2; } }
--     f();
--     throw 3;
abbrev pub returned_from_a_try : Stms
returned_from_a_try =
    Fun f [] (Try (gives (num 1) ⨾ Done) e (gives (num 2) ⨾ Done) ⨾ Done)
    ⨾ Do (call (Name f) [])
    ⨾ Throw (num 3)
    ⨾ Done

-- The call at depth 257 ends the run, and no `catch` sees it.
--     fun f() { f(); }
--     try { f(); } catch (e) { print(e); }
abbrev pub too_deep : Stms
too_deep =
    Fun f [] (Do (call (Name f) []) ⨾ Done)
    ⨾ Try (Do (call (Name f) []) ⨾ Done) e (Do (call (Name (codes "print")) (Name e ∷ [])) ⨾ Done)
    ⨾ Done

-- With 100 requests behind it a request ends the run.
--     while (true) { fetch('https://a'); }
abbrev pub asks_on : Stms
asks_on =
    While (Truth true) (Do (call (Name (codes "fetch")) (Text (codes "https://a") ∷ [])) ⨾ Done) ⨾ Done
