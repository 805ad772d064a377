-- Computed examples.
use Rattle.std.proofs.Common.{◌≡◌, ◌≤◌, ℕ, List, [], ◌∷◌, refl, inr, pos, true, lit≤}
use Rattle.std.specs.Prelude.{codes}
use Rattle.std.specs.Str.{byte, is_utf8}
use lib.Utf8.{encode}
use Rattle.std.specs.Str.{chars}
use Rattle.std.proofs.lemmas.Str.{IsUtf8-from_is_utf8}
use Rattle.hog_tree.specs.declared.tree.BinaryOp.TheVariants.{Plus}
use Rattle.hog_tree.specs.Plain as t
use Rattle.hog_grammar.specs.declared.token.Token.{Token}
use Rattle.hog_grammar.specs.declared.token.TokenKind.{TokenKind}
use Rattle.hog_grammar.specs.declared.token.TokenKind.TheVariants as k
use Rattle.hog_grammar.specs.Bytes.{class, is_pair}
use Rattle.hog_grammar.specs.declared.token.Fault.TheVariants.{BadByte}
use Rattle.hog_grammar.specs.Faults.{StandsInPiece}
use Rattle.hog_grammar.specs.Pieces as p
use Rattle.hog_grammar.specs.Pieces.{IsTokensOf, Code, Template}
use Rattle.hog_grammar.specs.Terminal as w
use Rattle.hog_grammar.specs.Terminal.{terminals, Terminal}
use Rattle.hog_grammar.specs.Names.{name_at, names_in}
use Rattle.hog_grammar.specs.Forms.{At}
use Rattle.hog_grammar.specs.Spelling.{Spells, Bare}

abbrev token : TokenKind → ℕ → ℕ → Token
token kind from to = record { kind = kind; from = from; to = to }

-- `let x := 1 + 2`, its tokens, what they mean, and the tree that they spell

abbrev sum : List ℕ
sum = codes "let x := 1 + 2"

abbrev sum_tokens : List Token
sum_tokens = token k.Word 0 3 ∷ token k.Word 4 5 ∷ token k.Mark 6 8 ∷ token k.Number 9 10 ∷ token k.Mark 11 12 ∷ token k.Number 13 14 ∷ []

abbrev sum_terminals : List Terminal
sum_terminals = w.Let ∷ w.Word (codes "x") ∷ w.Assign ∷ w.Number 1 ∷ w.Plus ∷ w.Number 2 ∷ []

sum_means : terminals sum sum_tokens ≡ sum_terminals
unfolding w.word w.mark
sum_means = refl

sum_is_utf8 : is_utf8 sum ≡ true
unfolding is_utf8 chars encode
sum_is_utf8 = refl

-- a blank, and the rest
blank : {P : p.Place → List ℕ → Type 0} (rest : List ℕ) → P (Code []) rest → p.After (p.Blank (byte " ")) P (Code []) (byte " " ∷ rest)
unfolding class
blank rest others = record { next = Code []; more = rest; bytes = refl; piece = refl; moves = ([], refl, refl); others = others }

sum_is_cut : IsTokensOf sum sum_tokens
unfolding class is_pair
sum_is_cut = record {
  utf8 = IsUtf8-from_is_utf8 sum sum_is_utf8;
  pieces = p.Word (byte "l") (codes "et") ∷ p.Blank (byte " ") ∷ p.Word (byte "x") [] ∷ p.Blank (byte " ") ∷ p.LongMark (byte ":") (byte "=")
      ∷ p.Blank (byte " ") ∷ p.Number (byte "1") [] ∷ p.Blank (byte " ") ∷ p.Mark (byte "+") ∷ p.Blank (byte " ") ∷ p.Number (byte "2") [] ∷ [];
  cut = record {
    next = Code [];
    more = codes " x := 1 + 2";
    bytes = refl;
    piece = (refl, (refl, (refl, tt)), refl, λ e. refl);
    moves = ([], refl, refl);
    others =
        blank (codes "x := 1 + 2") (record {
          next = Code [];
          more = codes " := 1 + 2";
          bytes = refl;
          piece = (refl, tt, refl, λ e. refl);
          moves = ([], refl, refl);
          others =
              blank (codes ":= 1 + 2") (record {
                next = Code [];
                more = codes " 1 + 2";
                bytes = refl;
                piece = refl;
                moves = ([], refl, refl);
                others =
                    blank (codes "1 + 2") (record {
                      next = Code [];
                      more = codes " + 2";
                      bytes = refl;
                      piece = (refl, tt, refl);
                      moves = ([], refl, refl);
                      others =
                          blank (codes "+ 2") (record {
                            next = Code [];
                            more = codes " 2";
                            bytes = refl;
                            piece = (refl, refl);
                            moves = ([], refl, refl);
                            others =
                                blank (codes "2") (record { next = Code []; more = []; bytes = refl; piece = (refl, tt, tt); moves = ([], refl, refl); others = (refl, refl) });
                          });
                    });
              });
        });
  };
  good = (tt, (tt, (tt, (tt, (tt, (tt, (lit≤ tt, (tt, (tt, (tt, (lit≤ tt, tt)))))))))));
  tokens = refl;
}

abbrev digit : (n : ℕ) (least : ℕ) → least ≤ 11 → At (Bare (t.Int (pos n))) 11 least (w.Number n ∷ []) 1
digit n least fits = record { pairs = 0; inner = w.Number n ∷ []; low = 1; bare = record { tokens = refl; height = refl }; tokens = refl; height = refl; fits = λ _. fits }

-- 1 statement, the operator, and an operand
sum_is_spelled : Spells (t.Then (t.Let (codes "x") (t.SomeExp (t.Binary Plus (t.Int (pos 1)) (t.Int (pos 2))))) t.Done) sum_terminals 3
sum_is_spelled = record {
  empty = 0;
  left = sum_terminals;
  right = [];
  low = 3;
  other = 0;
  first = record {
    inner = sum_terminals;
    ending = [];
    part = record {
      inner = w.Number 1 ∷ w.Plus ∷ w.Number 2 ∷ [];
      low = 2;
      part = record {
        pairs = 0;
        inner = w.Number 1 ∷ w.Plus ∷ w.Number 2 ∷ [];
        low = 2;
        bare = record { left = w.Number 1 ∷ []; right = w.Number 2 ∷ []; low = 1; other = 1; first = digit 1 7 (lit≤ tt); second = digit 2 8 (lit≤ tt); tokens = refl; height = refl };
        tokens = refl;
        height = refl;
        fits = λ _. lit≤ tt;
      };
      tokens = refl;
      height = refl;
    };
    ends = inr (refl, refl);
    tokens = refl;
  };
  second = record { empty = 0; tokens = refl; height = refl };
  tokens = refl;
  height = refl;
}

-- in the hole of a template that is closed, a byte that begins no token

abbrev bad_hole : List ℕ
bad_hole = codes "f'{#}'"

bad_hole_stands : StandsInPiece bad_hole BadByte 3
unfolding class
bad_hole_stands = record {
  pieces = p.TemplateStart ∷ p.HoleStart ∷ [];
  last = p.Stray (byte "#");
  offset = 0;
  to = Code (0 ∷ []);
  rest = codes "}'";
  passes = record {
    next = Template [];
    more = codes "{#}'";
    bytes = refl;
    piece = tt;
    moves = ([], refl, refl);
    others =
        record {
          next = Code (0 ∷ []);
          more = codes "#}'";
          bytes = refl;
          piece = tt;
          moves = ([], refl, refl);
          others =
              record { next = Code (0 ∷ []); more = codes "}'"; bytes = refl; piece = tt; moves = (0 ∷ [], refl, refl); others = (refl, refl) };
        };
  };
  holds = (refl, refl);
  place = refl;
}

-- `let x := y.z(x)` has the names x, y and x

abbrev property : List ℕ
property = codes "let x := y.z(x)"

abbrev property_tokens : List Token
property_tokens = token k.Word 0 3 ∷ token k.Word 4 5 ∷ token k.Mark 6 8 ∷ token k.Word 9 10 ∷ token k.Mark 10 11 ∷ token k.Word 11 12
    ∷ token k.Mark 12 13 ∷ token k.Word 13 14 ∷ token k.Mark 14 15 ∷ []

property_names : names_in property property_tokens ≡ name_at 4 (codes "x") ∷ name_at 9 (codes "y") ∷ name_at 13 (codes "x") ∷ []
unfolding w.word w.mark
property_names = refl
