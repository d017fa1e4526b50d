-- Believed: which contracts are bases of a contract, direct or indirect, by the names in the lists of bases. Hold it against Solidity's documentation, "Inheritance" and "Arguments for Base Constructors".
use Rattle.std.specs.Prelude.{ℕ, zero, suc, Bool, true, false, ◌&&◌, ◌||◌, nat_eq, List, [], ◌∷◌}
use Rattle.sv_ast.specs.declared.contract.Base.{Base}
use Rattle.sv_ast.specs.declared.contract.ContractKind.{ContractKind}
use Rattle.sv_ast.specs.declared.contract.ContractKind.TheVariants as kind
use Rattle.sv_ast.specs.declared.unit.UnitItem.{UnitItem}
use Rattle.sv_ast.specs.declared.unit.UnitItem.TheVariants as item

abbrev pub name_of : ContractKind → ℕ
name_of (kind.Contract notes is_abstract name bases parts) = name
name_of (kind.Interface name bases parts) = name

abbrev pub bases_of : ContractKind → List Base
bases_of (kind.Contract notes is_abstract name bases parts) = bases.bases
bases_of (kind.Interface name bases parts) = bases.bases

-- some base of a list is one of these
abbrev pub any_base : (ℕ → Bool) → List Base → Bool
any_base is [] = false
any_base is (b ∷ bs) = is b.name || any_base is bs

-- some base of the contract c is one of these
abbrev pub any_base_of : (ℕ → Bool) → ℕ → UnitItem → Bool
any_base_of is c (item.Contract k) = nat_eq (name_of k.kind) c && any_base is (bases_of k.kind)
any_base_of is c _ = false

abbrev pub any_base_in : (ℕ → Bool) → ℕ → List UnitItem → Bool
any_base_in is c [] = false
any_base_in is c (i ∷ rest) = any_base_of is c i || any_base_in is c rest

-- c has the base m, through at most n lists of bases
abbrev pub has_base : ℕ → List UnitItem → ℕ → ℕ → Bool
has_base zero items m c = false
has_base (suc n) items m c = any_base_in (λ b. nat_eq b m || has_base n items m b) c items
