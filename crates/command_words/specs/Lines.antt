-- What is printed where the words are no command.
use Rattle.std.specs.Prelude.{ℕ, List, codes}

abbrev pub usage_line : List ℕ
usage_line = codes "usage: camkes compile ROOT BASE | check CDL POLICY CERT | list ROOT | explain ROOT FROM AUTHORITY TO | replay CDL POLICY STEPS | generate N | audit CDL POLICY | certify CDL POLICY | sections ELF | plan CDL UNTYPEDS\n"
