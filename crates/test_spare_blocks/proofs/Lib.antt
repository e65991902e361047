mod Programmed
