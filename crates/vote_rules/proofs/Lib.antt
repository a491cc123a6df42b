mod Elected
