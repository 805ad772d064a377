-- Reading statements and programs from left to right.
use Rattle.std.specs.Prelude.{ℕ, zero, suc, max, List, ◌∷◌, length, false, Option, Result, Ok, Err, cond}
use Rattle.hog_tree.specs.Plain.{Word, Exp, Stm, Let, Assign, Do, Return, Throw, If, While, For, ForIn, Fun, Try, Block, Stms, Done, Then, OptionExp, NoneExp, SomeExp, OptionStm, NoneStm, SomeStm, OptionStms, NoneStms, SomeStms}
use Rattle.hog_grammar.specs.Terminal.{Terminal}
use Rattle.hog_grammar.specs.Terminal as k
use Rattle.hog_grammar.specs.Forms.{goes_on, ends_block}
use Rattle.hog_terms.specs.Marks.{Shut, after_open, after_close, after_open_brace, after_close_brace, after_semi, after_assign, after_else, after_name, after_function, after_catch, after_bound, is_target}
use Rattle.hog_reading.specs.Read.{Fault, Syntax, TooNested, Got, got, ◌>>=◌, wants, either_way, Read, Readers, grown, listing, name, several, braced, leveled}

-- the `;` after a statement, where it is not left out
abbrev pub ended : Got Stm → Result (Got Stm) Fault
ended g = either_way (after_semi g.rest) (λ us. Ok (got g.tree g.height us)) (cond (goes_on g.rest) (Err Syntax) (Ok g))

abbrev pub value_of : Readers → Word → Read Stm
value_of again w us = again.expression 1 us >>= grown (λ e. Let w (SomeExp e))

abbrev pub named : Readers → (Word × List Terminal) → Result (Got Stm) Fault
named again p = either_way (after_assign p.1) (value_of again p.0) (Ok (got (Let p.0 NoneExp) 1 p.1))

-- a declaration after its `let`
abbrev pub declared : Readers → Read Stm
declared again ts = wants (after_name ts) (named again)

abbrev pub assigned : Got Exp → Got Exp → Result (Got Stm) Fault
assigned t v = Ok (got (Assign t.tree v.tree) (suc (max t.height v.height)) v.rest)

abbrev pub assigning : Readers → Got Exp → Result (Got Stm) Fault
assigning again t = either_way (after_assign t.rest)
    (λ us. cond (is_target t.tree) (again.expression 1 us >>= assigned t) (Err Syntax)) (Ok (got (Do t.tree) (suc t.height) t.rest))

-- an assignment or an expression
unfoldable pub plain : Readers → Read Stm
plain again ts = again.expression 1 ts >>= assigning again

-- the start of a `for`
unfoldable pub start_of : Readers → Read Stm
start_of again (k.Let ∷ ts) = declared again ts
start_of again ts = plain again ts

-- a `return` after its word
abbrev pub returned : Readers → Read Stm
returned again ts = either_way (after_semi ts) (λ us. Ok (got (Return NoneExp) 1 us))
    (cond (ends_block ts) (Ok (got (Return NoneExp) 1 ts)) (again.expression 1 ts >>= grown (λ e. Return (SomeExp e)) >>= ended))

abbrev pub in_parentheses : Got Exp → Result (Got Exp) Fault
in_parentheses c = wants (after_close c.rest) (λ us. Ok (got c.tree c.height us))

abbrev pub condition : Readers → Read Exp
condition again ts = wants (after_open ts) (λ us. again.expression 1 us >>= in_parentheses)

abbrev pub only : Got Stm → Result (Got Stms) Fault
only g = Ok (got (Then g.tree Done) g.height g.rest)

-- a block, `;`, or one statement
unfoldable pub governed : Readers → Read Stms
governed again ts = either_way (after_open_brace ts) (braced again.statement)
    (either_way (after_semi ts) (λ us. Ok (got Done 0 us)) (again.statement ts >>= only))

abbrev pub some_block : Got Stms → Result (Got OptionStms) Fault
some_block b = Ok (got (SomeStms b.tree) b.height b.rest)

abbrev pub otherwise : Readers → Read OptionStms
otherwise again ts = either_way (after_else ts) (λ us. governed again us >>= some_block) (Ok (got NoneStms 0 ts))

abbrev pub conditional : Got Exp → Got Stms → Got OptionStms → Result (Got Stm) Fault
conditional c b e = Ok (got (If c.tree b.tree e.tree) (suc (max c.height (max b.height e.height))) e.rest)

abbrev pub looped : Got Exp → Got Stms → Result (Got Stm) Fault
looped c b = Ok (got (While c.tree b.tree) (suc (max c.height b.height)) b.rest)

-- what may be left out before a mark, and the mark
abbrev pub shut_some : {A B : Type 0} → (A → B) → Shut → Got A → Result (Got B) Fault
shut_some make shut g = wants (shut g.rest) (λ us. Ok (got (make g.tree) g.height us))

abbrev pub optional : {A B : Type 0} → B → (A → B) → Shut → Read A → Read B
optional none make shut part ts = either_way (shut ts) (λ us. Ok (got none 0 us)) (part ts >>= shut_some make shut)

abbrev pub run : Got OptionStm → Got OptionExp → Got OptionStm → Got Stms → Result (Got Stm) Fault
run s c n b = Ok (got (For s.tree c.tree n.tree b.tree) (suc (max (max s.height (max c.height n.height)) b.height)) b.rest)

-- a `for` after its parenthesis
unfoldable pub run_through : Readers → Read Stm
run_through again ts = optional NoneStm SomeStm after_semi again.start ts >>= λ s. optional NoneExp SomeExp after_semi (again.expression 1) s.rest
    >>= λ c. optional NoneStm SomeStm after_close again.step c.rest >>= λ n. governed again n.rest >>= run s c n

abbrev pub run_over : (Option Word × Word) → Got Exp → Got Stms → Result (Got Stm) Fault
run_over p e b = Ok (got (ForIn p.0 p.1 e.tree b.tree) (suc (max e.height b.height)) b.rest)

-- a `for .. in` after its `in`
abbrev pub over_each : Readers → ((Option Word × Word) × List Terminal) → Result (Got Stm) Fault
over_each again p = again.expression 1 p.1 >>= in_parentheses >>= λ e. governed again e.rest >>= run_over p.0 e

abbrev pub block : Readers → Read Stms
block again ts = wants (after_open_brace ts) (braced again.statement)

abbrev pub function : Word → Got (List Word) → Got Stms → Result (Got Stm) Fault
function f ws b = Ok (got (Fun f ws.tree b.tree) (suc (max ws.height b.height)) b.rest)

abbrev pub with_parameters : Readers → (Word × List Terminal) → Result (Got Stm) Fault
with_parameters again p = listing name false after_close p.1 >>= λ ws. block again ws.rest >>= function p.0 ws

abbrev pub tried : Got Stms → Word → Got Stms → Result (Got Stm) Fault
tried b w c = Ok (got (Try b.tree w c.tree) (suc (max b.height c.height)) c.rest)

-- one statement that doesn't begin with `;`
unfoldable pub begun : Readers → Read Stm
begun again (k.Let ∷ ts) = declared again ts >>= ended
begun again (k.Return ∷ ts) = returned again ts
begun again (k.Throw ∷ ts) = again.expression 1 ts >>= grown Throw >>= ended
begun again (k.If ∷ ts) = condition again ts >>= λ c. governed again c.rest >>= λ b. otherwise again b.rest >>= conditional c b
begun again (k.While ∷ ts) = condition again ts >>= λ c. governed again c.rest >>= looped c
begun again (k.For ∷ ts) = wants (after_open ts) (λ us. either_way (after_bound us) (over_each again) (run_through again us))
begun again (k.Fun ∷ ts) = wants (after_function ts) (with_parameters again)
begun again (k.Try ∷ ts) = block again ts >>= λ b. wants (after_catch b.rest) (λ p. block again p.1 >>= tried b p.0)
begun again (k.OpenBrace ∷ ts) = braced again.statement ts >>= grown Block
begun again ts = plain again ts >>= ended

abbrev pub nested : {A : Type 0} → Read A
nested ts = Err (TooNested (length ts))

-- what reads forms of this height at most
unfoldable pub readers : ℕ → Readers
readers zero = record { expression = λ l. nested; statement = nested; start = nested; step = nested }
readers (suc d) = record { expression = leveled (readers d) (suc d); statement = begun (readers d); start = start_of (readers d); step = plain (readers d) }

abbrev pub all_read : Got Stms → Result (Got Stms) Fault
all_read g = either_way (after_close_brace g.rest) (λ us. Err Syntax) (Ok g)

-- a program of this height at most
unfoldable pub program : ℕ → Read Stms
program d ts = several (readers d).statement (suc (length ts)) ts >>= all_read
