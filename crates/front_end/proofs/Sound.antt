-- What is known of a source in which no fault stands up to the settings.
use Rattle.front_end.proofs.Common.{AreNamesSound, None, Option, Some, Source, first_flat_fault, first_front_fault, first_name_fault, first_setting_fault, first_type_fault, names_sound, no_first, option_or, ◌≡◌}

pub no_second : {X : Type 0} (a b : Option X) → option_or a b ≡ None → b ≡ None
no_second None b e = e
no_second (Some x) b e = cc

pub record IsFaultless (s : Source) : Type 0 where
  pub names : AreNamesSound s
  pub types : first_type_fault s ≡ None
  pub flat : first_flat_fault s ≡ None
  pub settings : first_setting_fault s ≡ None

pub faultless : (s : Source) → first_front_fault s ≡ None → IsFaultless s
faultless s none =
    let a = first_name_fault s in
    let b = first_type_fault s in
    let c = first_flat_fault s in
    let d = first_setting_fault s in
    let two = no_second a (option_or b (option_or c d)) none in
    let three = no_second b (option_or c d) two in
    record {
      names = names_sound s (no_first a (option_or b (option_or c d)) none);
      types = no_first b (option_or c d) two;
      flat = no_first c d three;
      settings = no_second c d three;
    }
