-- "Settled on the bench": "P marks: proved of the definitions, as one table under one statement." The table; proofs/Bench has the statement.
use Rattle.std.specs.Prelude.{ℕ, List, [], ◌∷◌, map, ◌≡◌}
use Prim.Native.String.{String}
use Rattle.std.proofs.Math.Option.{some}
use Rattle.forest.specs.Lists.{spelling}
use Rattle.operators.specs.Operators.{operator_of, operator_sort, operator_value}
use Rattle.terms.specs.Costs.{defined_cost}
use Rattle.derivation.specs.Answer.{start}
use Rattle.derivation.specs.Derivation.{Simple}
use Rattle.names.specs.Scopes.{Function}
use Rattle.script.specs.Script.{Known, definitions_of}
use Rattle.script.specs.Response.{Body, in_script_order}
use Rattle.script.specs.Outcome.{given, response_outcome, said, script_outcome}

-- A row that is marked P: the value of an operator, by its name, the numbers of `(_ extract i j)` and the sorts and values of its operands; the list of rules
-- of the one body of a response to a script; or the costs of the bodies of a script's `define-fun`s, in the script's order.
pub data Mark : Type 0 where
  value : (name : String) → (i j : ℕ) → (sorts values : List ℕ) → (sort result : ℕ) → Mark
  derivation : (script response : String) → (list : List ℕ) → Mark
  costs : (script : String) → (list : List ℕ) → Mark

-- The operator of that name has that sort and that value.
pub record Valued (name : String) (i j : ℕ) (sorts values : List ℕ) (sort result : ℕ) : Type 0 where
  pub sort_is : operator_sort (operator_of (spelling name)) i j sorts ≡ some sort
  pub value_is : operator_value (operator_of (spelling name)) i j sorts values ≡ result

-- The script passes and has one function, the response gives it one body, and the function's grammar derives the body by that list, which is the only one that
-- uses no non-terminal twice at one place of the body: it is what is shown.
pub record Shown (script response list : List ℕ) : Type 0 where
  pub k : Known
  pub f : Function
  pub b : Body
  pub says : script_outcome script ≡ said k
  pub function : in_script_order k.functions ≡ f ∷ []
  pub gives : response_outcome k response ≡ given (b ∷ [])
  pub derives : Simple f.grammar [] start b.term list
  pub only : (other : List ℕ) → Simple f.grammar [] start b.term other → other ≡ list

-- The script passes, and the bodies of its first three `define-fun`s have these costs.
pub record Costing (script list : List ℕ) : Type 0 where
  pub k : Known
  pub says : script_outcome script ≡ said k
  pub costs_are : map (defined_cost (definitions_of k.defined)) (0 ∷ 1 ∷ 2 ∷ []) ≡ list

-- What a row says.
abbrev pub Settled : Mark → Type 0
Settled (value name i j sorts values sort result) = Valued name i j sorts values sort result
Settled (derivation script response list) = Shown (spelling script) (spelling response) list
Settled (costs script list) = Costing (spelling script) list

-- Every row of a table is so.
pub data AllSettled : List Mark → Type 0 where
  no_more : AllSettled []
  also : {m : Mark} {more : List Mark} → Settled m → AllSettled more → AllSettled (m ∷ more)

-- "Swap case, after document 000 example 3. BV32 rules: #x00000000 #x00000001 #xFFFFFFFF x (bvand BV32 BV32) (bvor BV32 BV32) (bvnot BV32) (concat BV16
-- BV16); BV16: #x0000 #x0001 #xFFFF, the same three operators, extract 31 16 and 15 0 of BV32."
abbrev pub swap_script : String
swap_script = "(set-logic BV)(synth-fun f ((x (_ BitVec 32))) (_ BitVec 32) ((BV32 (_ BitVec 32)) (BV16 (_ BitVec 16))) ((BV32 (_ BitVec 32) (#x00000000 #x00000001 #xFFFFFFFF x (bvand BV32 BV32) (bvor BV32 BV32) (bvnot BV32) (concat BV16 BV16))) (BV16 (_ BitVec 16) (#x0000 #x0001 #xFFFF (bvand BV16 BV16) (bvor BV16 BV16) (bvnot BV16) ((_ extract 31 16) BV32) ((_ extract 15 0) BV32)))))(check-synth)"

-- "Body `(concat ((_ extract 15 0) x) #x0000)`"
abbrev pub swap_response : String
swap_response = "((define-fun f ((x (_ BitVec 32))) (_ BitVec 32) (concat ((_ extract 15 0) x) #x0000)))"

-- "Ring: A has rule B; B has A, x."
abbrev pub ring_script : String
ring_script = "(set-logic BV)(synth-fun f ((x (_ BitVec 32))) (_ BitVec 32) ((A (_ BitVec 32)) (B (_ BitVec 32))) ((A (_ BitVec 32) (B)) (B (_ BitVec 32) (A x))))(check-synth)"

-- "Body x"
abbrev pub ring_response : String
ring_response = "((define-fun f ((x (_ BitVec 32))) (_ BitVec 32) x))"

-- "`d0` = (bvadd x x), each next `d` applies the last twice"
abbrev pub cost_script : String
cost_script = "(set-logic BV)(define-fun d0 ((x (_ BitVec 32))) (_ BitVec 32) (bvadd x x))(define-fun d1 ((x (_ BitVec 32))) (_ BitVec 32) (d0 (d0 x)))(define-fun d2 ((x (_ BitVec 32))) (_ BitVec 32) (d1 (d1 x)))(synth-fun f () Bool ((A Bool)) ((A Bool (true))))(check-synth)"

-- The rows. "P, 8 bits: `bvudiv #x0F #x00`=#xFF; `bvurem #x0F #x00`=#x0F; `bvshl #x01 #x08`=#x00; `bvlshr #x80 #x07`=#x01; `bvneg #x80`=#x80; `bvmul #x10
-- #x10`=#x00; `bvsub #x00 #x01`=#xFF; `concat #xA #xB`=#xAB; extract 7 4 of #xAB=#xA." "derivation 7, 15, 3, 8 (P)"; "Body x shows 0, 2 (P)"; "body costs 3, 9,
-- 21 (P)". "At 8 bits `bvsdiv #x80 #xFF` is #x80, `bvsrem #xF9 #x02` is #xFF, `bvsmod #xF9 #x02` is #x01." (E4)
abbrev pub bench : List Mark
bench =
    value "bvudiv" 0 0 (8 ∷ 8 ∷ []) (0x0F ∷ 0x00 ∷ []) 8 0xFF
    ∷ value "bvurem" 0 0 (8 ∷ 8 ∷ []) (0x0F ∷ 0x00 ∷ []) 8 0x0F
    ∷ value "bvshl" 0 0 (8 ∷ 8 ∷ []) (0x01 ∷ 0x08 ∷ []) 8 0x00
    ∷ value "bvlshr" 0 0 (8 ∷ 8 ∷ []) (0x80 ∷ 0x07 ∷ []) 8 0x01
    ∷ value "bvneg" 0 0 (8 ∷ []) (0x80 ∷ []) 8 0x80
    ∷ value "bvmul" 0 0 (8 ∷ 8 ∷ []) (0x10 ∷ 0x10 ∷ []) 8 0x00
    ∷ value "bvsub" 0 0 (8 ∷ 8 ∷ []) (0x00 ∷ 0x01 ∷ []) 8 0xFF
    ∷ value "concat" 0 0 (4 ∷ 4 ∷ []) (0xA ∷ 0xB ∷ []) 8 0xAB
    ∷ value "extract" 7 4 (8 ∷ []) (0xAB ∷ []) 4 0xA
    ∷ value "bvsdiv" 0 0 (8 ∷ 8 ∷ []) (0x80 ∷ 0xFF ∷ []) 8 0x80
    ∷ value "bvsrem" 0 0 (8 ∷ 8 ∷ []) (0xF9 ∷ 0x02 ∷ []) 8 0xFF
    ∷ value "bvsmod" 0 0 (8 ∷ 8 ∷ []) (0xF9 ∷ 0x02 ∷ []) 8 0x01
    ∷ derivation swap_script swap_response (7 ∷ 15 ∷ 3 ∷ 8 ∷ [])
    ∷ derivation ring_script ring_response (0 ∷ 2 ∷ [])
    ∷ costs cost_script (3 ∷ 9 ∷ 21 ∷ [])
    ∷ []
