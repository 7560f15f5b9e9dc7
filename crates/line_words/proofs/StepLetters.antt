-- The words that name steps, letter by letter.
use Rattle.std.proofs.Common.{◌≡◌, ◌<◌, ◌≤◌, ℕ, List, length, get_or, sym, ap, Some, arith}
use Rattle.std.specs.Prelude.{codes}
use Rattle.std.proofs.lemmas.Slice.Eq.{text_from_reads}
use Rattle.model_base.specs.declared.statement.Operation.TheVariants.{Add, Sub, Mul, Less, Same}
use Rattle.line_words.specs.StepWords.{step_name}
use Rattle.line_words.specs.declared.step_name.StepName.TheVariants.{Const, Compute, Has, Load, Store, Insert, Delete, Check, Skip, Out}

pub named_const : (w : List ℕ) → 5 ≤ length w → length w < 6 → get_or w 0 0 ≡ 67 → get_or w 1 0 ≡ 79 → get_or w 2 0 ≡ 78 → get_or w 3 0 ≡ 83 → get_or w 4 0 ≡ 84 → Some Const ≡ step_name w
named_const w low high a b c d e = let size : length w ≡ 5 = omega arith in ap step_name (sym (text_from_reads w (codes "CONST") size (a, (b, (c, (d, (e, tt)))))))

pub named_add : (w : List ℕ) → 3 ≤ length w → length w < 4 → get_or w 0 0 ≡ 65 → get_or w 1 0 ≡ 68 → get_or w 2 0 ≡ 68 → Some (Compute Add) ≡ step_name w
named_add w low high a b c = let size : length w ≡ 3 = omega arith in ap step_name (sym (text_from_reads w (codes "ADD") size (a, (b, (c, tt)))))

pub named_sub : (w : List ℕ) → 3 ≤ length w → length w < 4 → get_or w 0 0 ≡ 83 → get_or w 1 0 ≡ 85 → get_or w 2 0 ≡ 66 → Some (Compute Sub) ≡ step_name w
named_sub w low high a b c = let size : length w ≡ 3 = omega arith in ap step_name (sym (text_from_reads w (codes "SUB") size (a, (b, (c, tt)))))

pub named_mul : (w : List ℕ) → 3 ≤ length w → length w < 4 → get_or w 0 0 ≡ 77 → get_or w 1 0 ≡ 85 → get_or w 2 0 ≡ 76 → Some (Compute Mul) ≡ step_name w
named_mul w low high a b c = let size : length w ≡ 3 = omega arith in ap step_name (sym (text_from_reads w (codes "MUL") size (a, (b, (c, tt)))))

pub named_less : (w : List ℕ) → 4 ≤ length w → length w < 5 → get_or w 0 0 ≡ 76 → get_or w 1 0 ≡ 69 → get_or w 2 0 ≡ 83 → get_or w 3 0 ≡ 83 → Some (Compute Less) ≡ step_name w
named_less w low high a b c d = let size : length w ≡ 4 = omega arith in ap step_name (sym (text_from_reads w (codes "LESS") size (a, (b, (c, (d, tt))))))

pub named_same : (w : List ℕ) → 4 ≤ length w → length w < 5 → get_or w 0 0 ≡ 83 → get_or w 1 0 ≡ 65 → get_or w 2 0 ≡ 77 → get_or w 3 0 ≡ 69 → Some (Compute Same) ≡ step_name w
named_same w low high a b c d = let size : length w ≡ 4 = omega arith in ap step_name (sym (text_from_reads w (codes "SAME") size (a, (b, (c, (d, tt))))))

pub named_has : (w : List ℕ) → 3 ≤ length w → length w < 4 → get_or w 0 0 ≡ 72 → get_or w 1 0 ≡ 65 → get_or w 2 0 ≡ 83 → Some Has ≡ step_name w
named_has w low high a b c = let size : length w ≡ 3 = omega arith in ap step_name (sym (text_from_reads w (codes "HAS") size (a, (b, (c, tt)))))

pub named_load : (w : List ℕ) → 4 ≤ length w → length w < 5 → get_or w 0 0 ≡ 76 → get_or w 1 0 ≡ 79 → get_or w 2 0 ≡ 65 → get_or w 3 0 ≡ 68 → Some Load ≡ step_name w
named_load w low high a b c d = let size : length w ≡ 4 = omega arith in ap step_name (sym (text_from_reads w (codes "LOAD") size (a, (b, (c, (d, tt))))))

pub named_store : (w : List ℕ) → 5 ≤ length w → length w < 6 → get_or w 0 0 ≡ 83 → get_or w 1 0 ≡ 84 → get_or w 2 0 ≡ 79 → get_or w 3 0 ≡ 82 → get_or w 4 0 ≡ 69 → Some Store ≡ step_name w
named_store w low high a b c d e = let size : length w ≡ 5 = omega arith in ap step_name (sym (text_from_reads w (codes "STORE") size (a, (b, (c, (d, (e, tt)))))))

pub named_check : (w : List ℕ) → 5 ≤ length w → length w < 6 → get_or w 0 0 ≡ 67 → get_or w 1 0 ≡ 72 → get_or w 2 0 ≡ 69 → get_or w 3 0 ≡ 67 → get_or w 4 0 ≡ 75 → Some Check ≡ step_name w
named_check w low high a b c d e = let size : length w ≡ 5 = omega arith in ap step_name (sym (text_from_reads w (codes "CHECK") size (a, (b, (c, (d, (e, tt)))))))

pub named_skip : (w : List ℕ) → 4 ≤ length w → length w < 5 → get_or w 0 0 ≡ 83 → get_or w 1 0 ≡ 75 → get_or w 2 0 ≡ 73 → get_or w 3 0 ≡ 80 → Some Skip ≡ step_name w
named_skip w low high a b c d = let size : length w ≡ 4 = omega arith in ap step_name (sym (text_from_reads w (codes "SKIP") size (a, (b, (c, (d, tt))))))

pub named_out : (w : List ℕ) → 3 ≤ length w → length w < 4 → get_or w 0 0 ≡ 79 → get_or w 1 0 ≡ 85 → get_or w 2 0 ≡ 84 → Some Out ≡ step_name w
named_out w low high a b c = let size : length w ≡ 3 = omega arith in ap step_name (sym (text_from_reads w (codes "OUT") size (a, (b, (c, tt)))))

-- the words of six letters, letter by letter
pub named_insert : (w : List ℕ) → 6 ≤ length w → length w < 7 → get_or w 0 0 ≡ 73 → get_or w 1 0 ≡ 78 → get_or w 2 0 ≡ 83 → get_or w 3 0 ≡ 69 → get_or w 4 0 ≡ 82 → get_or w 5 0 ≡ 84 → Some Insert ≡ step_name w
named_insert w low high a b c d e f = let size : length w ≡ 6 = omega arith in ap step_name (sym (text_from_reads w (codes "INSERT") size (a, (b, (c, (d, (e, (f, tt))))))))

pub named_delete : (w : List ℕ) → 6 ≤ length w → length w < 7 → get_or w 0 0 ≡ 68 → get_or w 1 0 ≡ 69 → get_or w 2 0 ≡ 76 → get_or w 3 0 ≡ 69 → get_or w 4 0 ≡ 84 → get_or w 5 0 ≡ 69 → Some Delete ≡ step_name w
named_delete w low high a b c d e f = let size : length w ≡ 6 = omega arith in ap step_name (sym (text_from_reads w (codes "DELETE") size (a, (b, (c, (d, (e, (f, tt))))))))
